use Rattle.std.proofs.Common.{sym, ◌∙◌}
use Rattle.ipg_mach_failures.specs.Values.{read_at_hand}
use Rattle.ipg_mach_watch.proofs.Showing as showing
use Rattle.ipg_mach_watch.proofs.scenes.values_in.Goals as goal

pub returns-in-NoInterval : goal.returns-in-NoInterval
returns-in-NoInterval g c src call q =
    c.read_in.ensures src call q ∙ sym (showing.asked c.args.failure.cause (read_at_hand call c.args.failure.branch) c.in-NoInterval.is)
