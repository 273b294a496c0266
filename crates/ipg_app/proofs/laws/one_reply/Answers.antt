use Rattle.ipg_app.proofs.OneReply as once
use Rattle.ipg_app.proofs.laws.one_reply.Goals as goal

pub returns : goal.returns
returns c =
    once.one_reply c.one_core.ensures c.one_check.ensures c.one_parse.ensures c.one_path.ensures c.proves_is_no_fault.ensures c.fault_is_one.ensures
    c.load_once.ensures c.covered_has_no_gap.ensures c.one_gap.ensures c.one_edits.ensures c.one_script.ensures c.one_explained.ensures c.one_cleared.ensures
    c.one_followed.ensures c.one_trial.ensures
