use Rattle.ipg_mach.specs.Stage.{staged}
use Rattle.ipg_mach.proofs.Endings as endings
use Rattle.ipg_mach.proofs.machine.Machine.ending.Goals as goal

pub returns-in-None : goal.returns-in-None
returns-in-None g c src e at = endings.goes src (staged c.args.self.now.work) e at c.in-None.is
