use Rattle.std.proofs.Common.{◌≡◌, ◌+◌, drop, length}
use Rattle.std.specs.List.{flat_map}
use Rattle.ipg_cert.specs.Facts.{facts_of}
use Rattle.ipg_solve.proofs.counting.+members.Given as goal

-- the facts counted so far, and those of the members that are left, are those of all members
abbrev pub invariant-count_all-loop-member : goal.invariant-count_all-loop-member
invariant-count_all-loop-member l = l.n + length (flat_map facts_of (drop l.member-index l.members)) ≡ length (flat_map facts_of l.members)
