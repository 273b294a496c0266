use Rattle.ipg_proof.specs.Seen.{seen}
use Rattle.ipg_term.proofs.Whole.{reasons_in_all}
use Rattle.ipg_term.proofs.dead.look_now.Goals as goal

pub returns : goal.returns
returns c =
    reasons_in_all (λ _. Unit) c.live_cycles_are_cycles.ensures c.loops_are_live.ensures (seen c.args.calls) c.args.edge c.args.dead.now c.requires.edges
    c.requires.dead c.first_look.result c.first_look.ensures
