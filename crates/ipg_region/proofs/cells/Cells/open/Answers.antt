use Rattle.std.proofs.Common.{ap, ◌∙◌, ◌++◌, ◌∷◌, []}
use Rattle.ipg_region.proofs.ChunksLemmas.{opened}
use Rattle.ipg_region.proofs.cells.Cells.open.Goals as goal

pub returns-clause-kept : goal.returns-clause-kept
returns-clause-kept g c =
    opened c.self.inside.full.items c.push_reserved.new.self.items c.self.inside.last c.replace-last.new.dest.items
    (c.push_reserved.ensures.items ∙ ap (λ full. full ++ c.replace-last.result ∷ []) c.in_ok-reserve.ensures.items
    ∙ ap (λ last. c.self.inside.full.items ++ last ∷ []) c.replace-last.ensures.value)
    (ap (λ chunk. chunk.items) c.replace-last.ensures.after ∙ c.in_ok-chunk.ensures.items)
    ∙ ap (λ held. held.items) c.self.view_is
