use Rattle.ipg_app.proofs.OneParse as once
use Rattle.ipg_app.proofs.laws.one_parse.Goals as goal

pub returns : goal.returns
returns c = once.one_parse c.heights_agree.ensures c.answers_are_one.ensures
