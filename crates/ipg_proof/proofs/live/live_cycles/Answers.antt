use Rattle.std.proofs.Common.{map, ap, ◌∙◌, length, replicate, false}
use Rattle.std.proofs.Math.ListN.{length-replicate}
use Rattle.ipg_graph.specs.Graph.{graph_of}
use Rattle.ipg_proof.specs.Calls.{with_set}
use Rattle.ipg_proof.proofs.Places.{length_with_set}
use Rattle.ipg_proof.proofs.live.live_cycles.Goals as goal

pub new-requires-clause-flags : goal.new-requires-clause-flags
new-requires-clause-flags c =
    let none = replicate (length c.args.edges.now) false in
    ap length (c.as_slice.ensures.value ∙ c.in_ok-flags.ensures) ∙ length_with_set (map (λ entry. entry.0) c.args.dead.now) none
    ∙ length-replicate (length c.args.edges.now) false

pub returns-clause-graph : goal.returns-clause-graph
returns-clause-graph c =
    let edges = c.args.edges.now in
    let dead = map (λ entry. entry.0) c.args.dead.now in
    let flags = c.as_slice.ensures.value ∙ c.in_ok-flags.ensures in
    c.in_ok-cycles.ensures.graph
    ∙ ap (λ rules. graph_of (length rules) edges c.as_slice.result.now) c.rules.ensures.rules
    ∙ ap (graph_of (length c.args.g.now.rules) edges) flags
    ∙ ap (λ es. graph_of (length c.args.g.now.rules) es (with_set (replicate (length es) false) dead)) c.requires
