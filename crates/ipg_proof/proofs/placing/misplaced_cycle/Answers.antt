use Rattle.std.proofs.Common.{map, ap, ◌∙◌, length}
use Rattle.ipg_proof.specs.Calls.{live_graph, dead_edges}
use Rattle.ipg_proof.proofs.Places.{renamed}
use Rattle.ipg_proof.proofs.placing.misplaced_cycle.Goals as goal

pub returns : goal.returns
returns c =
    let dead = dead_edges c.args.c.now in
    let graph = c.in_ok-cycles.ensures.graph
    ∙ ap (λ entries. live_graph c.args.g.now (map (λ entry. entry.0) entries)) c.as_slice-dead.ensures in
    renamed c.in_ok-cycles.cycles.graph (live_graph c.args.g.now dead) c.in_ok-cycles.cycles.at (length c.as_slice-dead.result.now) (length c.args.c.now.dead)
    c.as_slice.result.now c.args.c.now.cycles c.other.result graph c.in_ok-cycles.ensures.start (ap length c.as_slice-dead.ensures) c.as_slice.ensures
    c.other.ensures
