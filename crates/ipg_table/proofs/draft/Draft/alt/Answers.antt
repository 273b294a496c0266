use Rattle.std.proofs.Common.{length, ap, subst, ◌∙◌}
use Rattle.ipg_table.specs.Rows.{Stands, StandsEach, HoldsInstr, attrs_in}
use Rattle.ipg_table.specs.Grows.{draft_rows}
use Rattle.ipg_table.proofs.Growth.{instrs_grow, more_sets}
use Rattle.ipg_table.proofs.draft.Draft.alt.Goals as goal

pub returns-clause-holds : goal.returns-clause-holds
returns-clause-holds c =
    let t = draft_rows c.instrs.new.self in
    let new = c.append.new.table.items in
    let rows = c.as_slice-2.result.now in
    let u = record t { sets = new } in
    let alt = c.args.alt.now in
    let terms = c.as_slice-terms.result.now in
    let span = c.in_ok-instrs.instrs in
    let ordered = subst (StandsEach (HoldsInstr t terms) t.instrs span) c.as_slice.ensures c.in_ok-instrs.ensures.holds in
    record {
      instrs = instrs_grow t u (more_sets t new rows c.in_ok-sets.ensures.grows) alt.terms span alt.order
          (subst (λ terms. StandsEach (HoldsInstr t terms) t.instrs span alt.order) c.as_slice-terms.ensures ordered);
      sets = subst (Stands new c.in_ok-sets.sets) (c.as_slice-2.ensures ∙ c.in_ok-set.ensures ∙ ap attrs_in c.as_slice-terms.ensures)
          c.in_ok-sets.ensures.stands;
      terms = c.in_ok-terms.ensures ∙ ap length c.as_slice-terms.ensures;
    }
