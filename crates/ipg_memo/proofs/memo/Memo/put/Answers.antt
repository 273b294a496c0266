use Rattle.ipg_memo.proofs.WholeLemmas.{distinct_whole, whole_indexed}
use Rattle.ipg_memo.proofs.memo.Memo.put.Goals as goal

pub over-requires-clause-distinct : goal.over-requires-clause-distinct
over-requires-clause-distinct g c =
    distinct_whole c.self.inside.rows.items c.in-Some.index (whole_indexed c.self.inside.rows.items c.self.inside.index c.in-Some.index
    c.self.invariant c.in-Some.is)
