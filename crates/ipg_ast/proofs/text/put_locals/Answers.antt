use Rattle.std.proofs.Common.{rules, ◌≡◌, ◌+◌, ◌∷◌, drop}
use Rattle.ipg_ast.specs.Spelling.{local_tokens, locals_tokens}
use Rattle.ipg_ast.specs.Canonical.{tokens_text}
use Rattle.ipg_ast.proofs.Lists.{locals_next}
use Rattle.ipg_ast.proofs.Texts.{at_item, Wrote, turn}
use Rattle.ipg_ast.proofs.text.put_locals.Goals as goal

pub loop-rule-preserved : goal.loop-rule-preserved
loop-rule-preserved c =
    let here : drop c.loop-rule.rule-index c.args.locals.now ≡ c.rule-item.result ∷ drop (c.loop-rule.rule-index + 1) c.args.locals.now =
    at_item c.args.locals.now c.loop-rule.rule-index _ c.rule-item.is (search rules) in
    let wrote : Wrote c.loop-rule.out.items (tokens_text (local_tokens c.rule-item.result)) c.put_local.new.out.items = record { is = search rules } in
    turn (tokens_text (locals_tokens (drop (c.loop-rule.rule-index + 1) c.args.locals.now))) _ _ wrote (locals_next _ _ _ here) c.loop-rule.invariant
