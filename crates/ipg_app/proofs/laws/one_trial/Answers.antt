use Rattle.ipg_app.proofs.OneTrial as once
use Rattle.ipg_app.proofs.laws.one_trial.Goals as goal

pub returns : goal.returns
returns c = once.one_trial c.heights_agree.ensures c.fresh_at_any_height.ensures c.one_reach.ensures c.all_where_none_kept.ensures
