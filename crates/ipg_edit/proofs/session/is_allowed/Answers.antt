use Rattle.std.proofs.Common.{refl, length}
use Rattle.ipg_edit.proofs.Editing as editing
use Rattle.ipg_edit.proofs.session.is_allowed.Goals as goal

pub returns : goal.returns
returns c =
    let long = c.edited_length.ensures in
    let s = c.args.input.now in
    let with = c.args.with.now in
    let from = c.args.from in
    let to = c.args.to in (
      (λ is. editing.is_allowed long s with from to (length s) refl (c.fits.ensures.0 is)),
      (λ allowed. c.fits.ensures.1 (editing.is_tested long s with from to (length s) refl allowed)),
    )
