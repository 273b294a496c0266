use Rattle.std.proofs.Common.{◌≡◌, ◌++◌, drop}
use Rattle.ipg_facts.specs.Members as spec
use Rattle.ipg_facts.specs.Aim as aims
use Rattle.ipg_facts.specs.View.{scope_of}
use Rattle.ipg_facts.proofs.members.put_terms.Given as goal

abbrev pub invariant-loop-term : goal.invariant-loop-term
invariant-loop-term l =
    (l.out.items ++ aims.terms_for l.aim (scope_of l.scope) (drop l.term-index l.order) ≡ l.fn.out.items ++ aims.terms_for l.aim (scope_of l.fn.scope) l.order)
    × (spec.passed_all (scope_of l.scope) (drop l.term-index l.order) ≡ spec.passed_all (scope_of l.fn.scope) l.order)
