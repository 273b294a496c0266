use Rattle.ipg_proof.specs.Seen.{seen}
use Rattle.ipg_term.specs.Refuted.{AreDead}
use Rattle.ipg_term.proofs.dead.dead_edges.Given as goal

abbrev pub invariant-loop-edge : goal.invariant-loop-edge
invariant-loop-edge l = AreDead (seen l.calls) l.edge l.dead
