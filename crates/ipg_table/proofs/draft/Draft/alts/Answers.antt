use Rattle.ipg_table.specs.Rows.{HoldsAlt}
use Rattle.ipg_table.specs.Grows.{draft_rows}
use Rattle.ipg_table.proofs.Growth.{appended, alt_grow, more_alts}
use Rattle.ipg_table.proofs.draft.Draft.alts.Goals as goal

pub returns-clause-holds : goal.returns-clause-holds
returns-clause-holds c =
    let t = draft_rows c.alt_rows.new.self in
    let new = c.append.new.table.items in
    let rows = c.as_slice.result.now in
    let u = record t { alts = new } in
    appended (HoldsAlt t) (HoldsAlt u) c.append.result t.alts rows new c.in_ok-rows.rows.items c.args.alts.now c.as_slice.ensures
    (λ e. alt_grow t u (more_alts t new rows e)) c.append.ensures.grows c.append.ensures.stands c.in_ok-rows.ensures.holds
