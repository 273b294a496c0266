use Rattle.ipg_app_reply_laws.proofs.Headline as sentence
use Rattle.ipg_app_reply_laws.proofs.laws.headline.Goals as goal

pub returns : goal.returns
returns c = sentence.headline c.one_core.ensures c.one_check.ensures c.one_parse.ensures
