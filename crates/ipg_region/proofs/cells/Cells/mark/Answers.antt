use Rattle.std.proofs.Common.{ap, ◌∙◌}
use Rattle.ipg_region.proofs.ChunksLemmas.{counted}
use Rattle.ipg_region.proofs.cells.Cells.mark.Goals as goal

pub returns : goal.returns
returns g c =
    counted c.self.inside.full.items c.self.inside.last.items _ _ _ c.self.invariant.full (ap (λ held. held.items) c.self.view_is)
    (c.len.ensures ∙ c.self.inside.full.ok.0) c.len-2.ensures.value
