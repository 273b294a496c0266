use Rattle.std.proofs.Common.{sym, ap, ◌∙◌}
use Rattle.ipg_mach_failures.specs.Failing as spec
use Rattle.ipg_mach_watch.proofs.scenes.place_of.Goals as goal

pub returns-in-None : goal.returns-in-None
returns-in-None g c src call q = c.reached.ensures src call q ∙ ap (spec.place_of call) (sym c.in-None.is)
