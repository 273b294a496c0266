use Rattle.std.proofs.Common.{◌++◌, ◌∷◌, ◌+◌, ◌^◌, ◌≤◌, [], ap, ◌∙◌, sym, subst, append-nil}
use Rattle.std.specs.Prelude.{decimal}
use Rattle.ipg_core.specs.Lines.{primitive_name}
use Rattle.ipg_core.specs.Part.{part}
use Rattle.ipg_tree_view.specs.Bare.{end_of}
use Rattle.ipg_tree_view.specs.View.{indented}
use Rattle.ipg_tree_view.proofs.Cuts.{lacks_as, lacks_none, piece_is}
use Rattle.ipg_tree.specs.Putting.{as_text}
use Rattle.ipg_tree_view.proofs.view.put_number.Goals as goal

pub returns : goal.returns
returns g c small =
    let visit = c.args.visit in
    let digits = decimal c.args.value in
    let said = primitive_name c.args.prim ++ 32 ∷ digits in
    let all = indented visit.depth said in
    let named = c.push.ensures all (32 ∷ digits)
    (lacks_as _ all _ _ (ap (λ n. n ++ 32 ∷ digits) (sym c.word.ensures.name)) (c.indent-text.ensures said)) in
    let text = lacks_none _ all (c.push_number.ensures all [] (lacks_as _ all _ _ (sym (append-nil digits)) (c.push-2.ensures all digits named))) in
    as_text c.put_piece.result _ _ _ _ _ _
    (piece_is c.args.p.now.parse.input visit.depth visit.from _ said _ _ c.piece_of.ensures.at
    (c.piece_of.ensures.bytes ∙ ap (λ e. part c.args.p.now.parse.input visit.from e)
    (c.end_of-end.ensures ∙ ap (end_of visit.from visit.to) (c.from.ensures ∙ c.width.ensures.value))))
    (c.put_piece.ensures said text (subst (λ k. k + 2 ^ 32 ≤ 2 ^ 64) (sym c.piece_of.ensures.at) small))
