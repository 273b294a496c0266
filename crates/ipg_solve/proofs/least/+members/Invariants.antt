use Rattle.std.proofs.Common.{◌≡◌, ◌≤◌, drop, map, length}
use Rattle.ipg_lin.specs.Formula.{every, some, greatest, width}
use Rattle.ipg_solve.specs.Domains.{rules_out}
use Rattle.ipg_solve.proofs.least.+members.Given as goal

-- the members that are left decide, and each of their variables has a domain
abbrev pub invariant-some_ruled_out-loop-member : goal.invariant-some_ruled_out-loop-member
invariant-some_ruled_out-loop-member l = record {
  left : some (map (rules_out l.domains) (drop l.member-index l.members)) ≡ some (map (rules_out l.domains) l.members);
  valued : greatest (map width (drop l.member-index l.members)) ≤ length l.domains;
}

abbrev pub invariant-all_ruled_out-loop-member : goal.invariant-all_ruled_out-loop-member
invariant-all_ruled_out-loop-member l = record {
  left : every (map (rules_out l.domains) (drop l.member-index l.members)) ≡ every (map (rules_out l.domains) l.members);
  valued : greatest (map width (drop l.member-index l.members)) ≤ length l.domains;
}
