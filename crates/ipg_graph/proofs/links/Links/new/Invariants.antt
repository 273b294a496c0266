use Rattle.std.proofs.Common.{◌≡◌, ◌++◌, drop, vec_len}
use Rattle.ipg_graph.specs.Graph.{ends}
use Rattle.ipg_graph.proofs.links.Links.new.Given as goal

abbrev pub invariant-loop-at : goal.invariant-loop-at
invariant-loop-at l = record {
  len : vec_len l.callers ≡ l.at;
  callees_len : vec_len l.callees ≡ l.at;
  callers : l.callers.items ++ ends l.rules (λ e. e.caller) (drop l.at l.edges) (drop l.at l.dead) ≡ ends l.rules (λ e. e.caller) l.edges l.dead;
  callees : l.callees.items ++ ends l.rules (λ e. e.callee) (drop l.at l.edges) (drop l.at l.dead) ≡ ends l.rules (λ e. e.callee) l.edges l.dead;
}
