use Rattle.std.proofs.Common.{rules, ◌≡◌, ◌<◌, ◌∙◌, sym, ap, subst, arith, length, true, false}
use Rattle.std.specs.Prelude.{replicate, slice_set}
use Rattle.std.proofs.lemmas.List.{length-replicate}
use Rattle.ipg_core.specs.MustTouch.{is_marked}
use Rattle.ipg_facts_edges.specs.Edges.{edges_of}
use Rattle.ipg_cover.specs.Pass.{AreSound, AreClosed}
use Rattle.ipg_cover.proofs.Flags.{set_size, some_rule, begun_here, begun_sound, passed_closed, are_reached}
use Rattle.ipg_cover.proofs.reach.reached.Goals as goal

pub loop-init : goal.loop-init
loop-init c =
    let g = c.args.g.now in
    let n = length c.rules.result.now in
    let made : c.in_ok-flags.flags.items ≡ replicate n false = search rules in
    let same : n ≡ length g.rules = ap length c.rules.ensures.rules in
    let first = c.rules.ensures.good.well_formed.first in
    let some : 0 < n = let there = some_rule g.rules first.0 first.1 in omega arith in
    record {
      size = set_size c.in_ok-flags.flags.items 0 ∙ ap length made ∙ length-replicate n false ∙ same;
      sound = subst (λ flags. AreSound (edges_of g) (slice_set flags 0 true)) (sym made) (begun_sound (edges_of g) n);
      here = ap (λ flags. is_marked (slice_set flags 0 true) 0) made ∙ begun_here n some;
    }

pub returns : goal.returns
returns c =
    let g = c.args.g.now in
    let old = c.loop.flags.items in
    let new = c.mark_callees.new.flags.items in
    let same : c.as_slice.result.now ≡ edges_of g = c.as_slice.ensures.value ∙ c.in_ok-edges.ensures in
    are_reached g new (c.mark_callees.ensures.size ∙ c.loop.invariant.size)
    (subst (λ edges. AreSound edges new) same
    (c.mark_callees.ensures.sound (subst (λ edges. AreSound edges old) (sym same) c.loop.invariant.sound)))
    (c.mark_callees.ensures.keeps 0 c.loop.invariant.here)
    (subst (λ edges. AreClosed edges new) same
    (passed_closed c.mark_callees.result c.as_slice.result.now old new c.loop-test.false c.mark_callees.ensures.passed))
