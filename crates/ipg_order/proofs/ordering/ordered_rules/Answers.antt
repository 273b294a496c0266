use Rattle.std.proofs.Common.{◌≡◌, ◌+◌, ◌∷◌, [], ◌++◌, length, Some, Err, refl, sym, ap, subst, ◌∙◌, append_assoc, arith}
use Rattle.std.specs.Prelude.{slice_get}
use Rattle.std.specs.Vec.Iter.{into_iter_items}
use Rattle.std.proofs.lemmas.List.{length-append}
use Rattle.ipg_core.specs.declared.grammar.CoreRule.{CoreRule}
use Rattle.ipg_order.specs.Ordered.{IsOrderedRule, AreOrderedRules, AreOrderedAlts, RuleStops, StopsIn, HasOrders}
use Rattle.ipg_order.proofs.Alternatives.{next_item, as_many_rules, one_more_rule, rules_have_orders}
use Rattle.ipg_order.proofs.ordering.ordered_rules.Goals as goal

pub overflow_cast-number : goal.overflow_cast-number
overflow_cast-number c =
    let at = c.loop-rule in
    let all : at.yielded ++ into_iter_items at.rule-iterator ≡ c.args.rules = at.invariant.0 ∙ c.into_iter-rule-iterator.ensures.into_iter_gives.0
    ∙ c.into_vec-rule-items.ensures in
    let parts = sym (length-append at.yielded (into_iter_items at.rule-iterator)) ∙ ap length all in
    let many = as_many_rules c.args.local.holders.now c.args.local.flags.now 0 at.yielded at.ordered.items at.invariant.2 in
    let count = c.requires.count in
    let is : c.len-number.result ≡ length at.ordered.items = c.len-number.ensures ∙ at.ordered.ok.0 in
    omega arith

pub loop-rule-preserved : goal.loop-rule-preserved
loop-rule-preserved c =
    let at = c.loop-rule in
    let holders = c.args.local.holders.now in
    let flags = c.args.local.flags.now in
    let steps : into_iter_items at.rule-iterator ≡ c.in-Some.rule ∷ into_iter_items c.next.new.self = c.in-Some.ensures.steps.0 in
    let many = as_many_rules holders flags 0 at.yielded at.ordered.items at.invariant.2 in
    let is : c.len-number.result ≡ length at.ordered.items = c.len-number.ensures ∙ at.ordered.ok.0 in
    let number : c.len-number.result ≡ 0 + length at.yielded = let e = is ∙ many in omega arith in
    let new : CoreRule = record { name = c.in-Some.rule.name; holder = c.in-Some.rule.holder; alts = c.from_vec.result } in (
      append_assoc at.yielded (c.in-Some.rule ∷ []) _ ∙ rw (← steps) at.invariant.0,
      let was = at.invariant.1 in
          let gone = c.in-Some.ensures.steps.1 in
          let short = ap length steps in
          omega arith,
      subst (AreOrderedRules holders flags 0 (at.yielded ++ c.in-Some.rule ∷ [])) (sym c.in_ok-push-in-Ok.ensures.items)
          (one_more_rule holders flags 0 at.yielded at.ordered.items c.in-Some.rule new at.invariant.2
          (subst (λ k. IsOrderedRule holders flags k c.in-Some.rule new) number (record {
            name = refl;
            holder = refl;
            alts = subst (AreOrderedAlts holders flags c.len-number.result 0 c.in-Some.rule.alts) (sym c.from_vec.ensures) c.in-Ok.ensures.ok;
          }))),
    )

pub returns-in-Err-Stuck-clause-err : goal.returns-in-Err-Stuck-clause-err
returns-in-Err-Stuck-clause-err c =
    let at = c.loop-rule in
    let holders = c.args.local.holders.now in
    let flags = c.args.local.flags.now in
    let all : at.yielded ++ into_iter_items at.rule-iterator ≡ c.args.rules = at.invariant.0 ∙ c.into_iter-rule-iterator.ensures.into_iter_gives.0
    ∙ c.into_vec-rule-items.ensures in
    let steps : into_iter_items at.rule-iterator ≡ c.in-Some.rule ∷ into_iter_items c.next.new.self = c.in-Some.ensures.steps.0 in
    let parts : at.yielded ++ c.in-Some.rule ∷ into_iter_items c.next.new.self ≡ c.args.rules = ap (λ xs. at.yielded ++ xs) (sym steps) ∙ all in
    let many = as_many_rules holders flags 0 at.yielded at.ordered.items at.invariant.2 in
    let is : c.len-number.result ≡ length at.ordered.items = c.len-number.ensures ∙ at.ordered.ok.0 in
    let number : c.len-number.result ≡ length at.yielded = is ∙ many in
    let rest = c.in-Some.rule ∷ into_iter_items c.next.new.self in
    record {
      rule = c.in-Some.rule;
      is_rule = subst (λ xs. slice_get xs c.len-number.result ≡ Some c.in-Some.rule) parts
          (ap (slice_get (at.yielded ++ rest)) number ∙ next_item at.yielded c.in-Some.rule (into_iter_items c.next.new.self));
      stops = subst (StopsIn holders flags c.len-number.result c.in-Some.rule.alts _) (sym c.in-Err-Stuck.term-is)
          (subst (λ a. StopsIn holders flags c.len-number.result c.in-Some.rule.alts a c.in-Err-Stuck.term) (sym c.in-Err-Stuck.alt-is)
          (subst (λ f. RuleStops holders flags c.len-number.result c.in-Some.rule.alts (Err f)) c.in-Err-Stuck.field-0-is c.in-Err-Stuck.ensures.err));
      before = λ s other lt e. subst (λ k. HasOrders holders flags k other) (let z : 0 + s ≡ s = omega arith in z)
          (rules_have_orders holders flags 0 at.yielded rest at.ordered.items at.invariant.2 s other (let n = number in omega arith)
          (ap (λ xs. slice_get xs s) parts ∙ e));
    }
