use Rattle.std.proofs.Common.{ℕ, Option, List, ap, ◌∙◌, length, map, arith}
use Rattle.std.specs.Vec.Iter.{into_iter_items}
use Rattle.ipg_complete.specs.declared.completed.CompletedAlt.{CompletedAlt}
use Rattle.ipg_complete.specs.declared.completed.CompletedRule.{CompletedRule}
use Rattle.ipg_store_adopt.specs.Adopted.{completed_rule}
use Rattle.ipg_store_adopt.proofs.Turns.{map_turn, all_came, one_came}
use Rattle.ipg_store_adopt.proofs.adopting.completed_rules.Goals as goal

abbrev rule_with : List ℕ → Option (ℕ × ℕ) → List CompletedAlt → CompletedRule
rule_with name holder alts = record { name = name; holder = holder; alts = alts }

pub loop-rule-preserved : goal.loop-rule-preserved
loop-rule-preserved c =
    let at = c.loop-rule in
    let steps = c.in-Some.ensures.steps.0 in (
      one_came c.in-Some.rule at.yielded _ _ _ steps at.invariant.0,
      let was = at.invariant.1 in
          let gone = c.in-Some.ensures.steps.1 in
          let short = ap length steps in
          omega arith,
      c.in_ok-push.ensures.items ∙ map_turn completed_rule at.yielded c.in-Some.rule at.made.items _ at.invariant.2
          (ap (rule_with c.in-Some.rule.name c.in-Some.rule.holder) c.in_ok-completed_alts.ensures),
    )

pub returns : goal.returns
returns c =
    let at = c.loop-rule in
    let all = at.invariant.0 ∙ c.into_iter-rule-iterator.ensures.into_iter_gives.0 ∙ c.into_vec-rule-items.ensures in
    c.from_vec.ensures ∙ at.invariant.2
    ∙ ap (map completed_rule) (all_came at.yielded (into_iter_items at.rule-iterator) _ _ all at.invariant.1 c.in-None.ensures.steps.0)
