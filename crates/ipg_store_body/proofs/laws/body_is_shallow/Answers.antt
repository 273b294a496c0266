use Rattle.ipg_store_body.proofs.Shallow.{rules}
use Rattle.ipg_store_body.proofs.laws.body_is_shallow.Goals as goal

pub returns : goal.returns
returns c body fits = rules body.rules fits.1.1
