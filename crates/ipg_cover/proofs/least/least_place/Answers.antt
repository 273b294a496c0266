use Rattle.std.proofs.Common.{rules, ◌<◌, ◌∙◌, sym, ap, subst, arith, length}
use Rattle.std.proofs.lemmas.Int.{to_z-of_z}
use mir.Syntax.{w64}
use Rattle.ipg_lin.specs.Formula.{assigned}
use Rattle.ipg_cover.specs.Cover.{IsLeastGap}
use Rattle.ipg_cover.specs.Gaps.{fixed}
use Rattle.ipg_cover.proofs.Fixed.{never_refuted, is_gap}
use Rattle.ipg_cover.proofs.least.least_place.Goals as goal

pub unreachable-requires : goal.unreachable-requires
unreachable-requires c =
    let some : 0 < length c.args.part.now.1.bounds = let there = c.requires.there in omega arith in
    never_refuted c.args.part.now c.args.eoi some c.requires.least c.in_ok-fixed.fixed
    (c.in_ok-fixed.ensures ∙ ap (fixed c.args.part.now.1) (to_z-of_z w64 c.args.eoi c.ranges.eoi))
    c.in_ok-values.field-0 c.in_ok-values.ensures c.in-Refuted.field-0 c.checks_refute.ensures c.in-Refuted.is

pub returns : goal.returns
returns c =
    let some : 0 < length c.args.part.now.1.bounds = let there = c.requires.there in omega arith in
    subst (λ z. IsLeastGap c.args.part.now z c.args.eoi) (sym (to_z-of_z w64 c.value_of.result (search rules)))
    (is_gap c.args.part.now c.args.eoi some c.requires.least c.in_ok-fixed.fixed
    (c.in_ok-fixed.ensures ∙ ap (fixed c.args.part.now.1) (to_z-of_z w64 c.args.eoi c.ranges.eoi))
    c.in_ok-values.field-0 c.in_ok-values.ensures c.in-Solution.values c.value_of.result c.in-Solution.is
    (c.value_of.ensures ∙ ap (λ values. assigned values 1) c.as_slice.ensures))
