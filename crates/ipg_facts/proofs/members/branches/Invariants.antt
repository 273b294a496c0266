use Rattle.std.proofs.Common.{◌≡◌, ◌++◌, drop, []}
use Rattle.ipg_facts.specs.Aim as spec
use Rattle.ipg_facts.specs.View.{scope_of}
use Rattle.ipg_facts.proofs.members.branches.Given as goal

abbrev pub invariant-loop-case : goal.invariant-loop-case
invariant-loop-case l = l.members.items ++ spec.branches_for l.ran.aim (scope_of l.scope) l.ran.term l.earlier.items (drop l.case-index l.cases) l.other
    ≡ spec.branches_for l.ran.aim (scope_of l.scope) l.ran.term [] l.cases l.other
