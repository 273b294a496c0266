use Rattle.std.proofs.Common.{◌≡◌, drop, map}
use Rattle.ipg_lin.specs.Formula.{every}
use Rattle.ipg_solve.specs.Differences.{are_differences}
use Rattle.ipg_solve.proofs.difference.+members.Given as goal

-- the members that are left decide
abbrev pub invariant-all_differences-loop-member : goal.invariant-all_differences-loop-member
invariant-all_differences-loop-member l = every (map are_differences (drop l.member-index l.members)) ≡ every (map are_differences l.members)
