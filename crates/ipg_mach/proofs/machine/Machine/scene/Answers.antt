use Rattle.std.proofs.Common.{sym, subst}
use Rattle.ipg_mach.specs.Scene.{IsSceneOf}
use Rattle.ipg_mach.specs.Stage.{staged}
use Rattle.ipg_mach.proofs.Stepping as stepping
use Rattle.ipg_mach.proofs.machine.Machine.scene.Goals as goal

pub returns-in-None : goal.returns-in-None
returns-in-None g c src e at =
    let s = staged c.args.self.now.work in
    let one = stepping.at_work s.tables src s.top s.frames e.lower e.highest at.highest c.in-None.is in
    subst (IsSceneOf src c.scene.result) (sym one.1)
    (c.scene.ensures src s.frames e.lower one.0 at.input (stepping.is_working src s e at one.0 one.1))
