use Rattle.ipg_table.specs.Grows.{draft_rows}
use Rattle.ipg_table.proofs.Growth.{begins_trans, get_grow, expr_grow}
use Rattle.ipg_table.proofs.draft.Draft.slot.Goals as goal

pub returns-clause-holds : goal.returns-clause-holds
returns-clause-holds c =
    let one = c.in_ok-from.ensures.grows in
    let two = c.in_ok-to.ensures.grows in
    record {
      sym = get_grow _ _ c.in_ok-sym.sym c.args.sym.now (begins_trans _ _ _ one.syms two.syms) c.in_ok-sym.ensures.holds;
      from = expr_grow (draft_rows c.expr.new.self) (draft_rows c.expr-2.new.self) two c.in_ok-from.from c.args.from.now c.in_ok-from.ensures.holds;
      to = c.in_ok-to.ensures.holds;
    }
