use Rattle.std.proofs.Common.{◌≡◌, ◌++◌, drop}
use Rattle.ipg_ast.specs.Spelling.{terms_tokens}
use Rattle.ipg_ast.specs.Canonical.{tokens_text}
use Rattle.ipg_ast.proofs.text.put_terms.Given as goal

abbrev pub invariant-loop-term : goal.invariant-loop-term
invariant-loop-term l =
    l.out.items ++ tokens_text (terms_tokens (drop l.term-index l.terms)) ≡ l.initial.out.items ++ tokens_text (terms_tokens l.terms)
