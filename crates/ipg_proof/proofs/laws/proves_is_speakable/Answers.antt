use Rattle.ipg_proof.proofs.Speaks as speaks
use Rattle.ipg_proof.proofs.laws.proves_is_speakable.Goals as goal

pub returns : goal.returns
returns c = speaks.proves_is_speakable c.edges_are_few.ensures c.conditions_offer.ensures c.joints_offer.ensures
