use Rattle.std.proofs.Common.{refl, sym, ◌∙◌}
use Rattle.ipg_mach_moves.specs.Moves.{moves}
use Rattle.ipg_mach_failures.specs.Furthest.{stories}
use Rattle.ipg_mach_watch.specs.Found.{last_worked}
use Rattle.ipg_mach_watch.proofs.watched.Watch.new.Goals as goal

pub returns : goal.returns
unfolding moves stories last_worked
returns g c e none = record { furthest = c.in_ok-new.ensures; calls = c.new-2.ensures.items ∙ sym none; last = refl }
