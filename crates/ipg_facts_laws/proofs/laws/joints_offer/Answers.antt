use Rattle.ipg_facts_laws.proofs.Offers as offers
use Rattle.ipg_facts_laws.proofs.laws.joints_offer.Goals as goal

pub returns : goal.returns
returns c = offers.joints_offer
