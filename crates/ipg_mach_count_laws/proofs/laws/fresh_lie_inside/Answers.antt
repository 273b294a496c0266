use Rattle.ipg_mach_count_laws.proofs.Inside as inside
use Rattle.ipg_mach_count_laws.proofs.laws.fresh_lie_inside.Goals as goal

pub returns : goal.returns
returns c = inside.fresh_lie_inside c.asks_what_fits.ensures
