use Rattle.std.proofs.Common.{◌≡◌, nat_le, drop, map}
use Rattle.ipg_lin.specs.Formula.{greatest, width}
use Rattle.ipg_lin.proofs.formula.+over.Given as goal

-- the members that are left decide
abbrev pub invariant-all_over-loop-member : goal.invariant-all_over-loop-member
invariant-all_over-loop-member l = nat_le (greatest (map width (drop l.member-index l.members))) l.vars ≡ nat_le (greatest (map width l.members)) l.vars
