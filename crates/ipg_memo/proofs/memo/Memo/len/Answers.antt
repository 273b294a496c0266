use Rattle.std.proofs.Common.{ap, sym, ◌∙◌}
use Rattle.std.specs.FinMap as map
use Rattle.ipg_memo.proofs.RowLemmas.{counted_indexed}
use Rattle.ipg_memo.proofs.memo.Memo.len.Goals as goal

pub returns : goal.returns
returns g c =
    c.len.ensures.value ∙ sym (counted_indexed c.self.inside.rows.items c.self.inside.index c.self.invariant) ∙ ap map.len c.self.view_is
