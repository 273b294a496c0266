use Rattle.std.proofs.Common.{◌++◌, sym, ap, ◌∙◌, append-nil, flat_map, []}
use Rattle.std.specs.Prelude.{codes}
use Rattle.ipg_tree_view.specs.Bare.{ended}
use Rattle.ipg_tree_view.specs.View.{gap_view, piece, interval}
use Rattle.ipg_tree.specs.Putting.{as_text}
use Rattle.ipg_tree_view.proofs.view.put_ended.Goals as goal

pub returns-in-Some : goal.returns-in-Some
returns-in-Some g c before =
    let from = c.in-Some.from in
    let to = c.args.run.at in
    let input = c.args.p.now.parse.input in
    let said = codes "gap " ++ interval from to [] in
    let is = ap (λ these. piece 1 from these said) c.part.ensures ∙ sym (append-nil (gap_view input (from, to)))
    ∙ ap (λ begun. flat_map (gap_view input) (ended to begun)) (sym c.in-Some.is) in
    as_text c.put_gap.result _ _ _ _ _ _ is (c.put_gap.ensures (before from c.in-Some.is))
