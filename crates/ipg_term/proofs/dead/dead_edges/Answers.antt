use Rattle.std.proofs.Common.{[], length}
use Rattle.ipg_proof.specs.Calls.{live_graph}
use Rattle.ipg_proof.specs.Seen.{seen}
use Rattle.ipg_term.specs.Refuted.{AreDead, IsReasonIn}
use Rattle.ipg_term.proofs.Listing.{handed_on}
use Rattle.ipg_term.proofs.Rising.{more_alive}
use Rattle.ipg_term.proofs.dead.dead_edges.Goals as goal
use Rattle.ipg_term.proofs.dead.dead_edges.Goals.{then-index+in_ok-put_dead, else-index}

pub loop-edge-preserved : goal.loop-edge-preserved
loop-edge-preserved c = elim c.if-index.branch [
  | then-index+in_ok-put_dead w ↦ rw w.dead-is w.in_ok-put_dead.ensures
  | else-index w ↦ rw w.dead-is (more_alive (seen c.args.calls) c.loop-edge.edge c.loop-edge.dead c.loop-edge.invariant)
]

pub returns-in_err-put_dead : goal.returns-in_err-put_dead
returns-in_err-put_dead c =
    let calls = seen c.args.calls in
    handed_on (AreDead calls (length c.args.calls.edges.now)) (IsReasonIn (live_graph c.args.calls.grammar.now []) calls) c.in_err-put_dead.field-0.0
    c.from_residual-in_err-put_dead.result c.from_residual-in_err-put_dead.ensures.1 c.in_err-put_dead.ensures
