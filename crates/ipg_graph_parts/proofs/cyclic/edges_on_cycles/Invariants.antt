use Rattle.std.proofs.Common.{◌≡◌, [], length}
use Rattle.ipg_graph.specs.Graph.{graph_of}
use Rattle.ipg_graph_parts.specs.Parts.{AreFlags}
use Rattle.ipg_graph_parts.proofs.cyclic.edges_on_cycles.Given as goal

abbrev pub invariant-loop-edge : goal.invariant-loop-edge
invariant-loop-edge l = record {
  len : length l.flags.items ≡ l.edge-index;
  same : AreFlags (graph_of l.rules l.edges []) l.parts.items l.flags.items;
}
