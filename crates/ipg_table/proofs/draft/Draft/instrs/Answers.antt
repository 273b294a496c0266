use Rattle.ipg_table.specs.Rows.{HoldsInstr}
use Rattle.ipg_table.specs.Grows.{draft_rows}
use Rattle.ipg_table.proofs.Growth.{appended, instr_grow, more_instrs}
use Rattle.ipg_table.proofs.draft.Draft.instrs.Goals as goal

pub returns-clause-holds : goal.returns-clause-holds
returns-clause-holds c =
    let t = draft_rows c.instr_rows.new.self in
    let new = c.append.new.table.items in
    let rows = c.as_slice.result.now in
    let u = record t { instrs = new } in
    let terms = c.args.terms.now in
    appended (HoldsInstr t terms) (HoldsInstr u terms) c.append.result t.instrs rows new c.in_ok-rows.rows.items c.args.order.now c.as_slice.ensures
    (λ e. instr_grow t u (more_instrs t new rows e) terms) c.append.ensures.grows c.append.ensures.stands c.in_ok-rows.ensures.holds
