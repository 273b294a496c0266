use Rattle.std.proofs.Common.{[], ◌∷◌, refl, sym}
use Rattle.std.specs.Prelude.{decimal}
use Rattle.ipg_core.specs.Lines.{hex}
use Rattle.ipg_tree.specs.Putting.{begun, more, next, exits, ended}
use Rattle.ipg_tree.proofs.Pieces.{line_pieces}
use Rattle.ipg_tree.proofs.parts.print_part.Goals as goal

pub returns-in_err-put_places : goal.returns-in_err-put_places
returns-in_err-put_places g c =
    let is = sym (line_pieces (decimal c.args.from ∷ decimal c.args.to ∷ []) (hex c.args.bytes.now) []) in
    exits _ c.from_residual.result c.from_residual.ensures.1 _ is (begun _ _ _) c.in_err-put_places.ensures

pub returns-in_err-put_bytes : goal.returns-in_err-put_bytes
returns-in_err-put_bytes g c =
    let is = sym (line_pieces (decimal c.args.from ∷ decimal c.args.to ∷ []) (hex c.args.bytes.now) []) in
    exits _ c.from_residual-in_err-put_bytes.result c.from_residual-in_err-put_bytes.ensures.1 _ refl
    (next is (begun _ _ _) c.in_ok-put_places.ensures) c.in_err-put_bytes.ensures

pub returns : goal.returns
returns g c =
    let is = sym (line_pieces (decimal c.args.from ∷ decimal c.args.to ∷ []) (hex c.args.bytes.now) []) in
    ended c.put.result _ _ (more (next is (begun _ _ _) c.in_ok-put_places.ensures) c.in_ok-put_bytes.ensures) c.put.ensures
