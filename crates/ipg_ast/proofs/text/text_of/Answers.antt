use Rattle.std.proofs.Common.{rules, ◌≡◌, ◌+◌, ◌∷◌, drop}
use Rattle.ipg_ast.specs.Spelling.{rule_tokens, rules_tokens}
use Rattle.ipg_ast.specs.Canonical.{tokens_text}
use Rattle.ipg_ast.proofs.Lists.{rules_next}
use Rattle.ipg_ast.proofs.Texts.{at_item, Wrote, turn}
use Rattle.ipg_ast.proofs.text.text_of.Goals as goal

pub loop-rule-preserved : goal.loop-rule-preserved
loop-rule-preserved c =
    let here : drop c.loop-rule.rule-index c.as_slice-rule-items.result.now ≡ c.rule-item.result ∷ drop (c.loop-rule.rule-index + 1)
    c.as_slice-rule-items.result.now = at_item c.as_slice-rule-items.result.now c.loop-rule.rule-index _ c.rule-item.is (search rules) in
    let wrote : Wrote c.loop-rule.out.items (tokens_text (rule_tokens c.rule-item.result)) c.put_rule.new.out.items = record { is = search rules } in
    turn (tokens_text (rules_tokens (drop (c.loop-rule.rule-index + 1) c.as_slice-rule-items.result.now))) _ _ wrote
    (rules_next _ _ _ here) c.loop-rule.invariant
