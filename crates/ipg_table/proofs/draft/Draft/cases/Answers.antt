use Rattle.ipg_table.specs.Rows.{HoldsCase}
use Rattle.ipg_table.specs.Grows.{draft_rows}
use Rattle.ipg_table.proofs.Growth.{appended, case_grow, more_cases}
use Rattle.ipg_table.proofs.draft.Draft.cases.Goals as goal

pub returns-clause-holds : goal.returns-clause-holds
returns-clause-holds c =
    let t = draft_rows c.case_rows.new.self in
    let new = c.append.new.table.items in
    let rows = c.as_slice.result.now in
    let u = record t { cases = new } in
    appended (HoldsCase t) (HoldsCase u) c.append.result t.cases rows new c.in_ok-rows.rows.items c.args.cases.now c.as_slice.ensures
    (λ e. case_grow t u (more_cases t new rows e)) c.append.ensures.grows c.append.ensures.stands c.in_ok-rows.ensures.holds
