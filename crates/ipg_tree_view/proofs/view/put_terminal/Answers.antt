use Rattle.std.proofs.Common.{◌+◌, ◌^◌, ◌≤◌, [], ap, ◌∙◌, sym, subst}
use Rattle.std.specs.Prelude.{codes}
use Rattle.ipg_core.specs.Part.{part}
use Rattle.ipg_tree_view.specs.View.{indented}
use Rattle.ipg_tree_view.proofs.Cuts.{lacks_none, piece_is}
use Rattle.ipg_tree.specs.Putting.{as_text}
use Rattle.ipg_tree_view.proofs.view.put_terminal.Goals as goal

pub returns : goal.returns
returns g c small =
    let visit = c.args.visit in
    let said = codes "tok" in
    let all = indented visit.depth said in
    let text = lacks_none _ all (c.push.ensures all [] (c.indent-text.ensures said)) in
    as_text c.put_piece.result _ _ _ _ _ _
    (piece_is c.args.p.now.parse.input visit.depth visit.from _ said _ _ c.piece_of.ensures.at
    (c.piece_of.ensures.bytes ∙ ap (λ e. part c.args.p.now.parse.input visit.from e) c.end_of-end.ensures))
    (c.put_piece.ensures said text (subst (λ k. k + 2 ^ 32 ≤ 2 ^ 64) (sym c.piece_of.ensures.at) small))
