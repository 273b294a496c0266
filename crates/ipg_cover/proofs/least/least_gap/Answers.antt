use Rattle.std.proofs.Common.{rules, ◌∙◌, sym, ap, subst}
use Rattle.std.proofs.lemmas.Int.{to_z-of_z}
use mir.Syntax.{w64}
use Rattle.ipg_lin.specs.Formula.{assigned}
use Rattle.ipg_cover.specs.Gaps.{IsLeastLength}
use Rattle.ipg_cover.proofs.Fixed.{is_length}
use Rattle.ipg_cover.proofs.least.least_gap.Goals as goal

pub least_place-requires-clause-least : goal.least_place-requires-clause-least
least_place-requires-clause-least c =
    subst (IsLeastLength c.args.part.now) (sym (to_z-of_z w64 c.value_of-eoi.result (search rules)))
    (is_length c.args.part.now c.in_ok-r.field-0 c.in-Solution.values c.value_of-eoi.result c.in_ok-r.ensures c.in-Solution.is
    (c.value_of-eoi.ensures ∙ ap (λ values. assigned values 0) c.as_slice.ensures))
