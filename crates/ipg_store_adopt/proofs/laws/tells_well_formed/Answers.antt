use Rattle.ipg_store_adopt.proofs.Fields as fields
use Rattle.ipg_store_adopt.proofs.laws.tells_well_formed.Goals as goal

pub returns : goal.returns
returns c = fields.tells_well_formed
