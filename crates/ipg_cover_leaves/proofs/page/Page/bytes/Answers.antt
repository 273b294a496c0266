use Rattle.std.proofs.Common.{Some, length, sym, ◌∙◌, ap, subst, ◌<◌, ◌≤◌}
use Rattle.std.specs.Prelude.{slice_get}
use Rattle.std.proofs.lemmas.Option.{slice_get-get_or}
use Rattle.ipg_cover_leaves.proofs.ReadOff.{is_gap, are_bytes}
use Rattle.ipg_cover_leaves.proofs.page.Page.bytes.Goals as goal

pub returns-in-None : goal.returns-in-None
returns-in-None c all holds =
    let same = c.deref-cell-items.ensures.value in
    is_gap _ _ all holds _ _ c.loop-at.invariant (subst (λ cells. c.loop-at.at < length cells) same c.loop-at-test.true)
    (sym (ap (λ cells. slice_get cells c.loop-at.at) same) ∙ slice_get-get_or _ _ _ c.loop-at-test.true ∙ ap Some c.in-None.is)

pub returns : goal.returns
returns c all holds =
    are_bytes _ _ all holds _ _ c.loop-at.invariant (subst (λ cells. length cells ≤ c.loop-at.at) c.deref-cell-items.ensures.value c.loop-at-test.false)
