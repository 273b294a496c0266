use Rattle.std.proofs.Common.{◌∙◌, ap, sym, subst, Some}
use Rattle.std.proofs.lemmas.Option.{slice_get-get_or}
use Rattle.std.proofs.lemmas.List.Elements.{All-get_or}
use Rattle.ipg_cover_leaves.specs.Back.{HasBytes, IsInside}
use Rattle.ipg_cover_leaves.proofs.Firsts.{one_more, first_not, all_so}
use Rattle.ipg_cover_leaves.proofs.back.outside.Goals as goal

pub is_inside-requires : goal.is_inside-requires
is_inside-requires c = subst HasBytes (sym c.index-leaves-n.is) (All-get_or HasBytes _ _ _ c.loop-n-test.true c.requires)

pub returns-then-not-is_inside : goal.returns-then-not-is_inside
returns-then-not-is_inside c =
    first_not (IsInside c.args.len) c.args.leaves.now c.loop-n.n c.index-leaves-n.result
    (slice_get-get_or _ _ _ c.loop-n-test.true ∙ ap Some (sym c.index-leaves-n.is)) c.if-not-is_inside.ensures c.loop-n.invariant

pub loop-n-preserved : goal.loop-n-preserved
loop-n-preserved c =
    one_more (IsInside c.args.len) c.args.leaves.now c.loop-n.n c.index-leaves-n.result
    (slice_get-get_or _ _ _ c.loop-n-test.true ∙ ap Some (sym c.index-leaves-n.is)) c.if-not-is_inside.ensures c.loop-n.invariant

pub returns : goal.returns
returns c = all_so (IsInside c.args.len) c.args.leaves.now c.loop-n.n c.loop-n-test.false c.loop-n.invariant
