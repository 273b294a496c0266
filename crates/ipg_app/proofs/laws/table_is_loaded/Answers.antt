use Rattle.ipg_app.proofs.Loaded as loaded
use Rattle.ipg_app.proofs.laws.table_is_loaded.Goals as goal

pub returns : goal.returns
returns c = loaded.table_is_loaded c.load_once.ensures c.one_check.ensures c.proves_is_accepted.ensures
