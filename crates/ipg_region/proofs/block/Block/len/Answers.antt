use Rattle.std.proofs.Common.{length, sym, ap, ◌∙◌}
use Rattle.ipg_region.proofs.PiecesLemmas.{length-pieces}
use Rattle.ipg_region.proofs.block.Block.len.Goals as goal

pub returns-clause-value : goal.returns-clause-value
returns-clause-value g c =
    c.len.ensures ∙ c.self.inside.ends.ok.0 ∙ sym (length-pieces c.self.inside.items.items 0 c.self.inside.ends.items)
    ∙ ap (λ held. length held.runs) c.self.view_is
