use Rattle.std.proofs.Common.{◌≡◌, ◌≤◌, ◌+◌, ◌-◌, length, drop}
use Rattle.ipg_label.specs.Naming as spec
use Rattle.ipg_label.proofs.naming.alike.Given as goal

abbrev pub invariant-loop-long : goal.invariant-loop-long
invariant-loop-long l = record {
  so_far : l.long + spec.alike (drop l.long l.a) (drop l.long l.b) ≡ spec.alike l.a l.b;
  within : l.long ≤ length l.a;
  others : l.long ≤ length l.b;
}

abbrev pub decreases-loop-long : goal.decreases-loop-long
decreases-loop-long l = length l.a - l.long
