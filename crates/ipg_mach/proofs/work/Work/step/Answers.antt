use Rattle.std.proofs.Common.{sym, subst, OnOk}
use Rattle.ipg_mach_moves.specs.Moves.{move, move_by}
use Rattle.ipg_mach.specs.Stage.{staged, IsAt}
use Rattle.ipg_mach.proofs.Stepping as stepping
use Rattle.ipg_mach.proofs.work.Work.step.Goals as goal

pub returns-in-None : goal.returns-in-None
unfolding move
returns-in-None g c src e at =
    let s = staged c.args.self.now in
    let one = stepping.at_work s.tables src s.top s.frames e.lower e.highest at.highest c.in-None.is in
    subst (λ h. OnOk c.work.result (IsAt src (staged c.work.new.self) (move_by e h))) (sym one.1) (c.work.ensures src e one.0 at one.1)
