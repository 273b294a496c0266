use Rattle.std.proofs.Common.{◌≡◌, drop, List, ◌++◌}
use Rattle.ipg_cert.specs.Facts.{bound_facts}
use Rattle.ipg_cert.specs.Seen.{all_seen}
use Rattle.ipg_cert.specs.declared.fact_ref.FactRef.{FactRef}
use Rattle.ipg_cert.proofs.gathering.add_bounds.Given as goal

abbrev pub invariant-loop-var : goal.invariant-loop-var
invariant-loop-var l =
    (more : List FactRef) × (l.known.items ≡ l.fn.known.items ++ more) × (all_seen more ++ bound_facts l.var (drop l.var l.bounds) ≡ bound_facts 0 l.bounds)
