use Rattle.ipg_core.proofs.Grows as grows
use Rattle.ipg_core.proofs.laws.asks_what_fits.Goals as goal

pub returns : goal.returns
returns c = grows.asks_what_fits
