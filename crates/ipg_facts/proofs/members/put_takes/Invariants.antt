use Rattle.std.proofs.Common.{◌≡◌, ◌++◌, drop, ◌-◌, ◌≤◌}
use Rattle.ipg_facts.specs.Members as spec
use Rattle.ipg_facts.specs.View.{scope_of}
use Rattle.ipg_facts.proofs.members.put_takes.Given as goal

abbrev pub invariant-loop-at : goal.invariant-loop-at
invariant-loop-at l = (l.at ≤ l.branch) × (l.out.items ++ spec.takes (scope_of l.scope) (drop l.at l.cases) l.other (l.branch - l.at) ≡ l.fn.out.items
    ++ spec.takes (scope_of l.scope) l.cases l.other l.branch)
