use Rattle.std.proofs.Common.{◌≡◌, ◌++◌, map, drop}
use Rattle.ipg_facts_forms.specs.Joint as joint
use Rattle.ipg_facts_forms.proofs.joining.moved_terms.Given as goal

abbrev pub invariant-loop-term : goal.invariant-loop-term
invariant-loop-term l = l.moved_terms.items ++ map (joint.moved_term l.by) (drop l.term-index l.terms) ≡ map (joint.moved_term l.by) l.terms
