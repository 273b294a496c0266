use Rattle.std.proofs.Common.{◌≡◌, ◌++◌, false, drop, codes}
use Rattle.ipg_ast.specs.Spelling.{alts_from}
use Rattle.ipg_ast.specs.Canonical.{tokens_text, is_semicolon}
use Rattle.ipg_ast.specs.declared.token.TokenKind.TheVariants.{Symbol}
use Rattle.ipg_ast.proofs.text.put_alts.Given as goal

abbrev pub invariant-loop-alt : goal.invariant-loop-alt
invariant-loop-alt l =
    (l.out.items ++ tokens_text (alts_from (Symbol l.mark) (drop l.alt-index l.alts)) ≡ l.initial.out.items
    ++ tokens_text (alts_from (Symbol (codes "->")) l.alts))
    × (is_semicolon l.mark ≡ false)
