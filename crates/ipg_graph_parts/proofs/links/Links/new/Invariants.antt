use Rattle.std.proofs.Common.{◌≡◌, ◌++◌, [], drop}
use Rattle.ipg_graph.specs.Graph.{ends}
use Rattle.ipg_graph_parts.proofs.links.Links.new.Given as goal

abbrev pub invariant-loop-edge : goal.invariant-loop-edge
invariant-loop-edge l = record {
  callers : l.callers.items ++ ends l.rules (λ e. e.caller) (drop l.edge-index l.edges) [] ≡ ends l.rules (λ e. e.caller) l.edges [];
  callees : l.callees.items ++ ends l.rules (λ e. e.callee) (drop l.edge-index l.edges) [] ≡ ends l.rules (λ e. e.callee) l.edges [];
}
