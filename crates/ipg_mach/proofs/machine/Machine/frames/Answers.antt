use Rattle.std.proofs.Common.{arith}
use Rattle.ipg_mach.specs.Stage.{staged}
use Rattle.ipg_mach.proofs.Stepping as stepping
use Rattle.ipg_mach.proofs.machine.Machine.frames.Goals as goal

pub returns : goal.returns
returns g c src e at =
    let s = staged c.args.self.now.work in
    let waits = stepping.count_waits s.tables src s.top s.frames e.lower e.highest at.highest in
    let count = c.len.ensures.value in
    omega arith
