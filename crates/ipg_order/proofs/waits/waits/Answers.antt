use Rattle.std.proofs.Common.{◌<◌, ◌*◌, sym, ◌∙◌, subst, length}
use Rattle.std.specs.List.{AllByRecursion}
use Rattle.ipg_order.specs.Closure.{IsRow}
use Rattle.ipg_order.specs.Locals.{IsFew, all_keys, all_hands}
use Rattle.ipg_order.proofs.Bounds.{is_few, keys_below, hands_below, if_reached}
use Rattle.ipg_order.proofs.waits.waits.Goals as goal

pub all_keys-requires : goal.all_keys-requires
all_keys-requires c = subst IsFew (sym c.rules-rules.ensures.rules) (is_few c.args.c.now c.rules-rules.ensures.well_formed)

pub all_hands-requires : goal.all_hands-requires
all_hands-requires c = subst IsFew (sym c.rules-rules.ensures.rules) (is_few c.args.c.now c.rules-rules.ensures.well_formed)

pub closure-requires-clause-keys : goal.closure-requires-clause-keys
closure-requires-clause-keys c =
    subst (AllByRecursion (λ k. k < length c.rules-rules.result.now * 256)) (sym (c.as_slice.ensures.value ∙ c.in_ok-keys.ensures))
    (subst (λ rules. AllByRecursion (λ k. k < length rules * 256) (all_keys rules)) (sym c.rules-rules.ensures.rules)
    (keys_below c.args.c.now c.rules-rules.ensures.well_formed))

pub closure-requires-clause-hands : goal.closure-requires-clause-hands
closure-requires-clause-hands c =
    subst (AllByRecursion (IsRow (length c.rules-rules.result.now))) (sym (c.as_slice-2.ensures.value ∙ c.in_ok-hands.ensures))
    (subst (λ rules. AllByRecursion (IsRow (length rules)) (all_hands rules)) (sym c.rules-rules.ensures.rules)
    (hands_below c.args.c.now c.rules-rules.ensures.well_formed))

pub returns : goal.returns
returns c =
    if_reached c.args.c.now c.rules-rules.result.now c.as_slice.result.now c.as_slice-2.result.now c.closure.result c.rules-rules.ensures.rules
    (c.as_slice.ensures.value ∙ c.in_ok-keys.ensures) (c.as_slice-2.ensures.value ∙ c.in_ok-hands.ensures) c.rules-rules.ensures.well_formed c.closure.ensures
