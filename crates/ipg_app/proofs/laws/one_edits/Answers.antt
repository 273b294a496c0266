use Rattle.ipg_app.proofs.OneEdits as once
use Rattle.ipg_app.proofs.laws.one_edits.Goals as goal

pub returns : goal.returns
returns c =
    once.one_edits c.keys_are_known.ensures c.keys_after_are_known.ensures c.heights_agree.ensures c.fresh_at_any_height.ensures c.one_fresh.ensures
