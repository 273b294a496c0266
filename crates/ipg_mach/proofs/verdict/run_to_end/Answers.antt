use Rattle.std.proofs.Common.{sym, ◌∙◌}
use Rattle.ipg_mach.specs.Stage.{staged}
use Rattle.ipg_mach.proofs.Ending as ending
use Rattle.ipg_mach.proofs.verdict.run_to_end.Goals as goal

pub returns-in-Done : goal.returns-in-Done
returns-in-Done g c src e at =
    let gone = c.in_ok-go.ensures.gone src e at in ending.done src (staged c.go.new.self.work) e gone.moved gone.at (sym c.in-Done.is ∙ gone.turned)
