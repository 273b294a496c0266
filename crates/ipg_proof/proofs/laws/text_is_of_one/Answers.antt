use Rattle.ipg_proof.proofs.OneText as one
use Rattle.ipg_proof.proofs.laws.text_is_of_one.Goals as goal

pub returns : goal.returns
returns c = one.text_is_of_one
