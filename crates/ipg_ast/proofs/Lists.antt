-- The text of a list of parts: that of the first, and that of the others.
use Rattle.std.proofs.Common.{◌≡◌, ◌∷◌, ◌++◌, [], ℕ, List, ap, ◌∙◌, sym, codes, cond, false}
use Rattle.std.proofs.lemmas.List.{append_assoc}
use Rattle.ipg_ast.specs.Spelling.{term_tokens, terms_tokens, case_tokens, cases_tokens, local_tokens, locals_tokens}
use Rattle.ipg_ast.specs.Spelling.{local_alts_from, alt_tokens, alts_from, rule_tokens, rules_tokens}
use Rattle.ipg_ast.specs.Canonical.{tokens_text, is_semicolon}
use Rattle.ipg_ast.specs.declared.token.TokenKind.TheVariants.{Symbol}
use Rattle.ipg_ast.specs.declared.grammar.Rule.{Rule}
use Rattle.ipg_ast.specs.declared.grammar.Alt.{Alt, out-Alt}
use Rattle.ipg_ast.specs.declared.grammar.Term.{Term}
use Rattle.ipg_ast.specs.declared.grammar.Case.{Case}
use Rattle.ipg_ast.proofs.Texts.{text_append}

pub terms_next : (xs rest : List Term) (x : Term) → xs ≡ x ∷ rest
    → tokens_text (terms_tokens xs) ≡ tokens_text (term_tokens x) ++ tokens_text (terms_tokens rest)
terms_next xs rest x here = ap (λ ts. tokens_text (terms_tokens ts)) here ∙ text_append (term_tokens x) (terms_tokens rest)

pub cases_next : (xs rest : List Case) (x : Case) → xs ≡ x ∷ rest
    → tokens_text (cases_tokens xs) ≡ tokens_text (case_tokens x) ++ tokens_text (cases_tokens rest)
cases_next xs rest x here = ap (λ ts. tokens_text (cases_tokens ts)) here ∙ text_append (case_tokens x) (cases_tokens rest)

pub locals_next : (xs rest : List Rule) (x : Rule) → xs ≡ x ∷ rest
    → tokens_text (locals_tokens xs) ≡ tokens_text (local_tokens x) ++ tokens_text (locals_tokens rest)
locals_next xs rest x here = ap (λ ts. tokens_text (locals_tokens ts)) here ∙ text_append (local_tokens x) (locals_tokens rest)

pub rules_next : (xs rest : List Rule) (x : Rule) → xs ≡ x ∷ rest
    → tokens_text (rules_tokens xs) ≡ tokens_text (rule_tokens x) ++ tokens_text (rules_tokens rest)
rules_next xs rest x here = ap (λ ts. tokens_text (rules_tokens ts)) here ∙ text_append (rule_tokens x) (rules_tokens rest)

abbrev slash : List ℕ
slash = codes "/"

pub alts_next : (mark : List ℕ) (xs rest : List Alt) (x : Alt) → is_semicolon mark ≡ false → xs ≡ x ∷ rest
    → tokens_text (alts_from (Symbol mark) xs) ≡ ((mark ++ (32 ∷ [])) ++ tokens_text (alt_tokens x)) ++ tokens_text (alts_from (Symbol slash) rest)
alts_next mark xs rest x plain here =
    ap (λ ts. tokens_text (alts_from (Symbol mark) ts)) here
    ∙ ap (λ b. mark ++ ((cond b 10 32) ∷ tokens_text (alt_tokens x ++ alts_from (Symbol slash) rest))) plain
    ∙ ap (λ t. mark ++ (32 ∷ t)) (text_append (alt_tokens x) (alts_from (Symbol slash) rest))
    ∙ sym (append_assoc (mark ++ (32 ∷ [])) (tokens_text (alt_tokens x)) _ ∙ append_assoc mark (32 ∷ []) _)

pub local_alts_next : (mark : List ℕ) (xs rest : List Alt) (x : Alt) → is_semicolon mark ≡ false → xs ≡ x ∷ rest
    → tokens_text (local_alts_from (Symbol mark) xs) ≡ ((mark ++ (32 ∷ [])) ++ tokens_text (terms_tokens (out-Alt x).terms))
    ++ tokens_text (local_alts_from (Symbol slash) rest)
local_alts_next mark xs rest x plain here =
    ap (λ ts. tokens_text (local_alts_from (Symbol mark) ts)) here
    ∙ ap (λ b. mark ++ ((cond b 10 32) ∷ tokens_text (terms_tokens (out-Alt x).terms ++ local_alts_from (Symbol slash) rest))) plain
    ∙ ap (λ t. mark ++ (32 ∷ t)) (text_append (terms_tokens (out-Alt x).terms) (local_alts_from (Symbol slash) rest))
    ∙ sym (append_assoc (mark ++ (32 ∷ [])) (tokens_text (terms_tokens (out-Alt x).terms)) _ ∙ append_assoc mark (32 ∷ []) _)
