use Rattle.std.proofs.Common.{[], ◌∷◌, ap, sym, subst, ◌∙◌}
use Rattle.std.specs.Prelude.{OnOk}
use Rattle.std.specs.List.{flat_map}
use Rattle.std.proofs.lemmas.Result.{on_ok_weaker}
use Rattle.ipg_cert.specs.Facts.{facts_of, Choice}
use Rattle.ipg_cert.specs.Seen.{Appends}
use Rattle.ipg_cert.specs.declared.fact_ref.FactRef.TheVariants as fact_ref
use Rattle.ipg_cert.specs.Told.{facts_of-All, facts_of-Any}
use Rattle.ipg_cert.proofs.gathering.+members.Goals as goal

pub add_formula-returns-in-All : goal.add_formula-returns-in-All
add_formula-returns-in-All t c =
    subst (λ facts. OnOk c.add_members.result (Appends c.args.known.now.items c.add_members.new.known.items facts))
    (ap (flat_map facts_of) c.as_slice.ensures ∙ sym (ap facts_of c.in-All.is ∙ facts_of-All c.in-All.members)) c.add_members.ensures

pub add_formula-returns-in-Any : goal.add_formula-returns-in-Any
add_formula-returns-in-Any t c =
    let fact = fact_ref.Choice c.as_slice-in-Any.result in
    on_ok_weaker c.push_fact-in-Any.result
    (λ e. (fact ∷ [], e, ap (λ fs. Choice fs ∷ []) c.as_slice-in-Any.ensures ∙ sym (ap facts_of c.in-Any.is ∙ facts_of-Any c.in-Any.members)))
    c.push_fact-in-Any.ensures
