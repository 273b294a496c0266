use Rattle.std.proofs.Common.{◌≡◌, ◌≤◌, drop, map, length}
use Rattle.ipg_lin.specs.Formula.{every, some, holds_at, assigned, greatest, width}
use Rattle.ipg_lin.proofs.formula.+members.Given as goal

-- the members that are left decide, and each of their variables has a value
abbrev pub invariant-every-loop-member : goal.invariant-every-loop-member
invariant-every-loop-member l = record {
  left : every (map (holds_at (assigned l.values)) (drop l.member-index l.members)) ≡ every (map (holds_at (assigned l.values)) l.members);
  valued : greatest (map width (drop l.member-index l.members)) ≤ length l.values;
}

abbrev pub invariant-some-loop-member : goal.invariant-some-loop-member
invariant-some-loop-member l = record {
  left : some (map (holds_at (assigned l.values)) (drop l.member-index l.members)) ≡ some (map (holds_at (assigned l.values)) l.members);
  valued : greatest (map width (drop l.member-index l.members)) ≤ length l.values;
}
