use Rattle.std.proofs.Common.{◌≡◌, ◌++◌, drop}
use Rattle.ipg_ast.specs.Spelling.{locals_tokens}
use Rattle.ipg_ast.specs.Canonical.{tokens_text}
use Rattle.ipg_ast.proofs.text.put_locals.Given as goal

abbrev pub invariant-loop-rule : goal.invariant-loop-rule
invariant-loop-rule l =
    l.out.items ++ tokens_text (locals_tokens (drop l.rule-index l.locals)) ≡ l.initial.out.items ++ tokens_text (locals_tokens l.locals)
