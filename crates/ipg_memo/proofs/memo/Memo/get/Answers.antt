use Rattle.std.proofs.Common.{ap, sym, ◌∙◌}
use Rattle.std.specs.FinMap as map
use Rattle.ipg_memo.specs.Keyed.{Entries}
use Rattle.ipg_memo.specs.Ways.{entry_at}
use Rattle.ipg_memo.proofs.RowLemmas.{got_indexed, got_nothing}
use Rattle.ipg_memo.proofs.memo.Memo.get.Goals as goal

pub returns-in-Some : goal.returns-in-Some
returns-in-Some g c =
    c.entry_of.ensures
    ∙ ap (entry_at c.self.inside.rows.items) c.reach.ensures.value
    ∙ sym (got_indexed c.self.inside.rows.items c.self.inside.index c.in-Some.index c.args.key c.self.invariant c.in-Some.is)
    ∙ ap (λ (m : Entries). map.get m c.args.key) c.self.view_is

pub returns-in-None : goal.returns-in-None
returns-in-None g c =
    sym (ap (λ (m : Entries). map.get m c.args.key) (sym c.self.view_is)
    ∙ got_nothing c.self.inside.rows.items c.self.inside.index c.args.key c.self.invariant c.in-None.is)
