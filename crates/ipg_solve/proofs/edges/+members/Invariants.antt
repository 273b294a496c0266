use Rattle.std.proofs.Common.{◌≡◌, ◌≤◌, ◌^◌, ◌++◌, drop, map}
use Rattle.std.specs.List.{flat_map, AllByRecursion}
use Rattle.ipg_lin.specs.Formula.{greatest, width}
use Rattle.ipg_cert.specs.Facts.{facts_of}
use Rattle.ipg_solve.specs.Edges.{edges_in, IsSized}
use Rattle.ipg_solve.proofs.edges.+members.Given as goal

-- the edges so far, and those of the members that are left, are those of all members
abbrev pub invariant-put_members-loop-member : goal.invariant-put_members-loop-member
invariant-put_members-loop-member l = record {
  put : l.edges.items ++ edges_in (flat_map facts_of (drop l.member-index l.members)) ≡ l.fn.edges.items ++ edges_in (flat_map facts_of l.members);
  sized : AllByRecursion IsSized (flat_map facts_of (drop l.member-index l.members)) → AllByRecursion IsSized (flat_map facts_of l.members);
  narrow : greatest (map width (drop l.member-index l.members)) ≤ 2 ^ 21;
}
