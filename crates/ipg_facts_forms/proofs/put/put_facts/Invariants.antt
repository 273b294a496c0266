use Rattle.std.proofs.Common.{◌≡◌, ◌++◌, drop}
use Rattle.std.specs.List.{filter, flat_map}
use Rattle.ipg_facts_forms.specs.declared.fact.Part.{Part}
use Rattle.ipg_facts_forms.specs.Form as spec
use Rattle.ipg_facts_forms.proofs.put.put_facts.Given as goal

abbrev pub invariant-loop-part : goal.invariant-loop-part
invariant-loop-part l = l.out.items ++ flat_map (λ (p : Part). p.facts) (filter spec.counts (drop l.part-index l.part-items)) ≡ l.fn.out.items
    ++ flat_map (λ (p : Part). p.facts) (filter spec.counts l.form.parts)
