use Rattle.std.proofs.Common.{◌≡◌, ◌++◌, drop}
use Rattle.std.specs.List.{AllByRecursion}
use Rattle.ipg_cert.specs.Facts.{bound_facts}
use Rattle.ipg_solve.specs.Edges.{edges_in, IsSized}
use Rattle.ipg_solve.proofs.edges.put_bounds.Given as goal

abbrev pub invariant-loop-x : goal.invariant-loop-x
invariant-loop-x l = record {
  put : l.edges.items ++ edges_in (bound_facts l.x (drop l.x l.bounds)) ≡ l.fn.edges.items ++ edges_in (bound_facts 0 l.bounds);
  sized : AllByRecursion IsSized (bound_facts l.x (drop l.x l.bounds)) → AllByRecursion IsSized (bound_facts 0 l.bounds);
}
