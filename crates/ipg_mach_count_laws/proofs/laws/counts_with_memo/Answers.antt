use Rattle.ipg_mach_count_laws.proofs.Whole as whole
use Rattle.ipg_mach_count_laws.proofs.laws.counts_with_memo.Goals as goal

pub returns : goal.returns
returns c = whole.counts_with_memo c.counts_over.ensures c.keys_are_known.ensures c.all_where_none_kept.ensures
