use Rattle.std.proofs.Common.{Some, ◌∙◌, ap, refl}
use Rattle.std.proofs.lemmas.Option.{slice_get_read}
use Rattle.ipg_cover_leaves.proofs.Cells.{put_new, put_same, put_other}
use Rattle.ipg_cover_leaves.proofs.page.Page.put.Goals as goal

pub returns-in-None-clause-put : goal.returns-in-None-clause-put
returns-in-None-clause-put c all holds =
    put_new _ _ all _ _ holds c.requires (slice_get_read _ _ _ _ refl c.requires c.index.ensures ∙ ap Some c.in-None.is)

pub returns-then-other-byte-clause-put : goal.returns-then-other-byte-clause-put
returns-then-other-byte-clause-put c all holds =
    put_other _ _ all _ _ holds c.in-Some.other _ (slice_get_read _ _ _ _ refl c.requires c.index.ensures ∙ ap Some c.in-Some.is)
    c.if-other-byte.true c.lesser.ensures.at c.lesser.ensures.clash c.lesser.ensures.one

pub returns-else-other-byte-clause-put : goal.returns-else-other-byte-clause-put
returns-else-other-byte-clause-put c all holds =
    put_same _ _ all _ _ holds (slice_get_read _ _ _ _ refl c.requires c.index.ensures ∙ ap Some (c.in-Some.is ∙ ap Some c.if-other-byte.false))
