use Rattle.std.proofs.Common.{refl, sym, ap, ◌∙◌, subst}
use Rattle.std.specs.Prelude.{slice_get}
use Rattle.std.proofs.lemmas.Option.{slice_get_read}
use Rattle.ipg_touch.specs.Few.{IsFew}
use Rattle.ipg_touch.proofs.Few.{is_few}
use Rattle.ipg_touch.proofs.repetitions.loose.Goals as goal

pub loose_alt-requires : goal.loose_alt-requires
loose_alt-requires c =
    let is = slice_get_read c.rules-body-items.result.now _ c.loop-rule.rule c.body-item.result refl c.loop-rule-test.true c.body-item.is in
    let there = sym (ap (λ rs. slice_get rs c.loop-rule.rule) c.rules-body-items.ensures.rules) ∙ is in
    subst IsFew (sym c.as_slice.ensures) (is_few c.args.g.now c.rules-body-items.ensures.good c.loop-rule.rule c.body-item.result there)
