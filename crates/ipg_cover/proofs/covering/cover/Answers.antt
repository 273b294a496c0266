use Rattle.std.proofs.Common.{rules, ◌≡◌, ℕ, ◌≤◌, ◌+◌, ◌∙◌, sym, ap, subst, arith, length, get_or, take}
use Rattle.std.proofs.lemmas.Int.{to_z-of_z}
use Rattle.std.specs.List.{AllByRecursion}
use mir.Syntax.{w64}
use mir.Val.{to_z, of_z}
use Rattle.ipg_facts.specs.Gap.{HasAlternative}
use Rattle.ipg_cover.specs.Cover.{Ground, Covers, HasGap, AreRefuted, alternatives}
use Rattle.ipg_cover.proofs.Tried.{all_there, one_there, found_gap, found_refuted, covers, next_refuted, has_gap}
use Rattle.ipg_cover.proofs.covering.cover.Goals as goal

pub gap_of-requires : goal.gap_of-requires
gap_of-requires c =
    let g = c.core-core.result.now in
    let places = c.as_slice-place-items.result.now in
    let listed : places ≡ alternatives g c.in_ok-flags.flags.items =
    c.as_slice-place-items.ensures.value ∙ c.in_ok-places.ensures ∙ ap (alternatives g) c.as_slice.ensures.value in
    one_there g places c.loop-place.place-index (0, 0) c.loop-place-test.true
    (subst (λ ps. AllByRecursion (λ place. HasAlternative g place.0 place.1) ps) (sym listed) (all_there g c.in_ok-flags.flags.items))

pub returns-in-Gap : goal.returns-in-Gap
returns-in-Gap c =
    let g = c.core-core.result.now in
    let places = c.as_slice-place-items.result.now in
    let ground : Ground g = record {
      marks = c.in_ok-marks.marks.items;
      limit = c.in_ok-marks.ensures.limit;
      flags = c.in_ok-flags.flags.items;
      reached = c.in_ok-flags.ensures;
    } in
    let listed : places ≡ alternatives g ground.flags =
    c.as_slice-place-items.ensures.value ∙ c.in_ok-places.ensures ∙ ap (alternatives g) c.as_slice.ensures.value in
    let place : ℕ × ℕ = get_or places c.loop-place.place-index (0, 0) in
    let least = found_gap g c.as_slice-in-loop-place.result.now ground.marks c.as_slice-in-loop-place.ensures.value place c.in_ok-r.field-0
    c.in-Gap.at c.in-Gap.eoi c.in-Gap.is c.in_ok-r.ensures in
    let has = has_gap g ground places listed c.loop-place.refutations c.loop-place.place-index c.loop-place.invariant (0, 0) c.in-Gap.at c.in-Gap.eoi
    c.loop-place-test.true c.checks_refute.ensures least in
    subst (λ z. HasGap c.args.g.now place z (to_z w64 (of_z w64 c.in-Gap.eoi))) (sym (to_z-of_z w64 c.in-Gap.at (search rules)))
    (subst (HasGap c.args.g.now place c.in-Gap.at) (sym (to_z-of_z w64 c.in-Gap.eoi (search rules)))
    (subst (λ g. HasGap g place c.in-Gap.at c.in-Gap.eoi) c.core-core.ensures.core has))

pub loop-place-preserved : goal.loop-place-preserved
loop-place-preserved c =
    let g = c.core-core.result.now in
    let places = c.as_slice-place-items.result.now in
    let ground : Ground g = record {
      marks = c.in_ok-marks.marks.items;
      limit = c.in_ok-marks.ensures.limit;
      flags = c.in_ok-flags.flags.items;
      reached = c.in_ok-flags.ensures;
    } in
    let listed : places ≡ alternatives g ground.flags =
    c.as_slice-place-items.ensures.value ∙ c.in_ok-places.ensures ∙ ap (alternatives g) c.as_slice.ensures.value in
    let place : ℕ × ℕ = get_or places c.loop-place.place-index (0, 0) in
    let checks = found_refuted g c.as_slice-in-loop-place.result.now ground.marks c.as_slice-in-loop-place.ensures.value place c.in_ok-r.field-0
    c.in-Refuted.r c.in-Refuted.is c.in_ok-r.ensures in
    subst (AreRefuted g ground.marks (take (c.loop-place.place-index + 1) places)) (sym c.in_ok-push-in-Refuted.ensures.ok)
    (next_refuted g ground places listed c.loop-place.refutations c.loop-place.place-index c.loop-place.invariant (0, 0) c.in-Refuted.r
    c.loop-place-test.true checks)

pub returns : goal.returns
returns c =
    let g = c.core-core.result.now in
    let places = c.as_slice-place-items.result.now in
    let ground : Ground g = record {
      marks = c.in_ok-marks.marks.items;
      limit = c.in_ok-marks.ensures.limit;
      flags = c.in_ok-flags.flags.items;
      reached = c.in_ok-flags.ensures;
    } in
    let listed : places ≡ alternatives g ground.flags =
    c.as_slice-place-items.ensures.value ∙ c.in_ok-places.ensures ∙ ap (alternatives g) c.as_slice.ensures.value in
    let past : length places ≤ c.loop-place.place-index = let f = c.loop-place-test.false in omega arith in
    subst (λ g. Covers g c.loop-place.refutations) c.core-core.ensures.core
    (covers g ground places listed c.loop-place.refutations c.loop-place.place-index c.loop-place.invariant past)
