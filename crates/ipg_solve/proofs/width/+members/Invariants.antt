use Rattle.std.proofs.Common.{◌≡◌, max, drop, map}
use Rattle.ipg_lin.specs.Formula.{width, greatest}
use Rattle.ipg_solve.proofs.width.+members.Given as goal

-- the greatest so far, and those of the members that are left
abbrev pub invariant-greatest-loop-member : goal.invariant-greatest-loop-member
invariant-greatest-loop-member l = max l.greatest (greatest (map width (drop l.member-index l.members))) ≡ greatest (map width l.members)
