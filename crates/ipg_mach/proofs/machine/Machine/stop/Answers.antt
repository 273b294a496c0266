use Rattle.ipg_mach_nodes.specs.Stored.{before}
use Rattle.ipg_mach.specs.Stage.{staged}
use Rattle.ipg_mach.proofs.Knowing as knowing
use Rattle.ipg_mach.proofs.Stepping as stepping
use Rattle.ipg_mach.proofs.machine.Machine.stop.Goals as goal

pub returns-in-Some : goal.returns-in-Some
returns-in-Some g c src e answer at ends =
    let s = staged c.args.self.work in
    let st = s.top.store in
    let grown = c.grows_from_before.ensures st s.top.floor at.floor in (
      stepping.final src s e at answer ends c.in-Some.held c.in-Some.is,
      at.tally,
      knowing.known_stays c.trees_stay.ensures src (before st s.top.floor) st grown s.memo e.known at.known,
    )
