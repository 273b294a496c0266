use Rattle.ipg_proof.specs.Seen.{seen}
use Rattle.ipg_term.proofs.Rising.{more_alive}
use Rattle.ipg_term.proofs.dead.put_dead.Goals as goal

pub returns-in-Ok-true : goal.returns-in-Ok-true
returns-in-Ok-true c = more_alive (seen c.args.calls) c.args.edge c.args.dead.now c.requires.before
