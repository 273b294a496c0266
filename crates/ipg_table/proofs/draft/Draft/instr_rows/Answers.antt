use Rattle.std.proofs.Common.{◌+◌, take, sym, subst, get_or}
use Rattle.ipg_table.specs.Rows.{Each, HoldsInstr}
use Rattle.ipg_table.specs.Grows.{draft_rows}
use Rattle.ipg_table.proofs.Growth.{grows_trans, each_turn, instr_grow, get_or_same}
use Rattle.ipg_table.proofs.draft.Draft.instr_rows.Goals as goal

pub loop-term-preserved : goal.loop-term-preserved
loop-term-preserved c =
    let t = draft_rows c.loop-term.self in
    let u = draft_rows c.instr.new.self in
    let terms = c.args.terms.now in
    let order = c.args.order.now in
    let i = c.loop-term.term-index in
    let term = get_or order i 0 in (
      grows_trans (draft_rows c.args.self.now) t u c.loop-term.invariant.0 c.in_ok-row.ensures.grows,
      subst (λ rows. Each (HoldsInstr u terms) rows (take (i + 1) order)) (sym c.in_ok-push.ensures.ok)
          (each_turn (HoldsInstr t terms) (HoldsInstr u terms) c.loop-term.rows.items order i c.in_ok-row.row term
          (instr_grow t u c.in_ok-row.ensures.grows terms) (get_or_same order i 0 term c.loop-term-test.true) c.loop-term-test.true
          c.loop-term.invariant.1 c.in_ok-row.ensures.holds),
    )
