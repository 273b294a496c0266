use Rattle.std.proofs.Common.{◌≡◌, map}
use Rattle.ipg_proof.specs.Calls.{live_graph}
use Rattle.ipg_proof.specs.Seen.{seen}
use Rattle.ipg_term.specs.Refuted.{AreRefuted}
use Rattle.ipg_term.proofs.cycles.refuted_cycles.Given as goal

abbrev pub invariant-loop-refuted : goal.invariant-loop-refuted
invariant-loop-refuted l = record {
  graph : l.cycles.graph ≡ live_graph l.calls.grammar.now (map (λ entry. entry.0) l.dead);
  refuted : AreRefuted l.cycles.graph (seen l.calls) l.cycles.at l.refuted;
}

abbrev pub decreases-loop-refuted : goal.decreases-loop-refuted
decreases-loop-refuted l = l.cycles.left
