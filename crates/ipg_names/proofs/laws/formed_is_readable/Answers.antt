use Rattle.ipg_names.proofs.Sizes.{readable}
use Rattle.ipg_names.proofs.laws.formed_is_readable.Goals as goal

pub returns : goal.returns
returns c = readable
