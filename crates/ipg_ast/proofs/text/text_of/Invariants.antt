use Rattle.std.proofs.Common.{◌≡◌, ◌++◌, drop}
use Rattle.ipg_ast.specs.Spelling.{rules_tokens}
use Rattle.ipg_ast.specs.Canonical.{tokens_text}
use Rattle.ipg_ast.proofs.text.text_of.Given as goal

abbrev pub invariant-loop-rule : goal.invariant-loop-rule
invariant-loop-rule l =
    l.out.items ++ tokens_text (rules_tokens (drop l.rule-index l.rule-items)) ≡ tokens_text (rules_tokens l.rule-items)
