use Rattle.std.proofs.Common.{arith, ◌≡◌, sym, length, refl, ◌+◌, slice_get, Some}
use Rattle.std.proofs.lemmas.Option.{slice_get_read}
use Rattle.ipg_app_explain.specs.Terms.{locals_of}
use Rattle.ipg_app_explain.proofs.Found.{in_piece, piece_more}
use Rattle.ipg_app_explain.proofs.terms.local_at.Goals as goal

pub returns-in-Ok : goal.returns-in-Ok
returns-in-Ok c =
    let alts = c.args.alts.now in
    let i = c.loop-alt.alt-index in
    let at = slice_get_read alts (length alts) i c.alt-item.result refl c.loop-alt-test.true c.alt-item.is in
    let found : slice_get (locals_of c.alt-item.result) c.loop-alt.rest ≡ Some c.in-Ok.found.now = rw (sym c.as_slice.ensures) c.in-Ok.ensures in
    in_piece locals_of alts i c.loop-alt.rest c.alt-item.result c.in-Ok.found.now at found c.args.number c.loop-alt.invariant

pub loop-alt-preserved : goal.loop-alt-preserved
loop-alt-preserved c =
    let alts = c.args.alts.now in
    let i = c.loop-alt.alt-index in
    let at = slice_get_read alts (length alts) i c.alt-item.result refl c.loop-alt-test.true c.alt-item.is in
    let more = piece_more locals_of alts i (i + 1) c.alt-item.result at refl in
    let rest : c.loop-alt.rest ≡ length (locals_of c.alt-item.result) + c.in-Err.more = rw (sym c.as_slice.ensures) c.in-Err.ensures in
    omega (arith, more, rest, c.loop-alt.invariant)
