use Rattle.ipg_proof.proofs.Alive as alive
use Rattle.ipg_proof.proofs.laws.live_cycles_are_cycles.Goals as goal

pub returns : goal.returns
returns c = alive.live_cycles_are_cycles
