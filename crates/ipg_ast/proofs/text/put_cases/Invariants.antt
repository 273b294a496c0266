use Rattle.std.proofs.Common.{◌≡◌, ◌++◌, drop}
use Rattle.ipg_ast.specs.Spelling.{cases_tokens}
use Rattle.ipg_ast.specs.Canonical.{tokens_text}
use Rattle.ipg_ast.proofs.text.put_cases.Given as goal

abbrev pub invariant-loop-case : goal.invariant-loop-case
invariant-loop-case l =
    l.out.items ++ tokens_text (cases_tokens (drop l.case-index l.cases)) ≡ l.initial.out.items ++ tokens_text (cases_tokens l.cases)
