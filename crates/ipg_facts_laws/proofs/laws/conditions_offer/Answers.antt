use Rattle.ipg_facts_laws.proofs.Offers as offers
use Rattle.ipg_facts_laws.proofs.laws.conditions_offer.Goals as goal

pub returns : goal.returns
returns c = offers.conditions_offer
