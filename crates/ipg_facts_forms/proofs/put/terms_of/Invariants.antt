use Rattle.std.proofs.Common.{◌≡◌, ◌++◌, map, drop}
use Rattle.std.specs.List.{filter}
use Rattle.ipg_facts_forms.specs.declared.fact.Part.{Part}
use Rattle.ipg_facts_forms.specs.Form as spec
use Rattle.ipg_facts_forms.proofs.put.terms_of.Given as goal

abbrev pub invariant-loop-part : goal.invariant-loop-part
invariant-loop-part l = l.terms.items ++ map (λ (p : Part). (p.variable, p.factor)) (filter spec.counts (drop l.part-index l.parts))
    ≡ map (λ (p : Part). (p.variable, p.factor)) (filter spec.counts l.parts)
