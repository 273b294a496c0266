use Rattle.std.proofs.Common.{refl, sym}
use Rattle.ipg_tree.specs.Putting.{begun, more, next, exits, ended}
use Rattle.ipg_tree.proofs.Pieces.{head_parts, place_words}
use Rattle.ipg_tree.proofs.line.put_by_parts.Goals as goal

pub returns-in_err-put_depth : goal.returns-in_err-put_depth
returns-in_err-put_depth g c =
    let is = sym (head_parts _ c.args.name.now (place_words c.args.places)) in
    exits _ c.from_residual.result c.from_residual.ensures.1 _ is (begun _ _ _) c.in_err-put_depth.ensures

pub returns-in_err-put : goal.returns-in_err-put
returns-in_err-put g c =
    let is = sym (head_parts _ c.args.name.now (place_words c.args.places)) in
    exits _ c.from_residual-in_err-put.result c.from_residual-in_err-put.ensures.1 _ refl (next is (begun _ _ _) c.in_ok-put_depth.ensures) c.in_err-put.ensures

pub returns : goal.returns
returns g c =
    let is = sym (head_parts _ c.args.name.now (place_words c.args.places)) in
    ended c.put_places.result _ _ (more (next is (begun _ _ _) c.in_ok-put_depth.ensures) c.in_ok-put.ensures) c.put_places.ensures
