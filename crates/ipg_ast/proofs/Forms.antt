-- The text of each form that is written piece after piece.
use Rattle.std.proofs.Common.{◌≡◌, ◌∷◌, ◌++◌, [], ℕ, List, ap, refl, ◌∙◌, sym, codes, length, ◌==◌, false, true≢false}
use Rattle.std.proofs.lemmas.List.{append_assoc}
use Rattle.ipg_ast.specs.Spelling.{place_tokens, slot_tokens, case_tokens, cases_tokens, set_tokens, test_tokens, pick_tokens, term_tokens}
use Rattle.ipg_ast.specs.Spelling.{locals_tokens, where_tokens, alts_tokens, local_alts_tokens}
use Rattle.ipg_ast.specs.Canonical.{tokens_text}
use Rattle.ipg_ast.specs.declared.token.Reserved.TheVariants as reserved
use Rattle.ipg_ast.specs.declared.token.TokenKind.TheVariants.{Word, Symbol}
use Rattle.ipg_ast.specs.declared.grammar.Ident.{Ident}
use Rattle.ipg_ast.specs.declared.grammar.Expr.{Expr}
use Rattle.ipg_ast.specs.declared.grammar.Place.TheVariants.{Length, Ends}
use Rattle.ipg_ast.specs.declared.grammar.Term.TheVariants.{Repeat}
use Rattle.ipg_ast.specs.declared.grammar.Slot.{Slot}
use Rattle.ipg_ast.specs.declared.grammar.Case.{Case}
use Rattle.ipg_ast.specs.declared.grammar.Rule.{Rule}
use Rattle.ipg_ast.specs.declared.grammar.Alt.{Alt}
use Rattle.ipg_ast.proofs.Exprs.{text}
use Rattle.ipg_ast.proofs.Texts.{text_append}

pub length_text : (e : Expr) → ((91 ∷ 32 ∷ []) ++ text e) ++ (93 ∷ 32 ∷ []) ≡ tokens_text (place_tokens (Length e))
length_text e = simp (text_append, append_assoc) refl

pub ends_text : (l r : Expr) → ((((91 ∷ 32 ∷ []) ++ text l) ++ (44 ∷ 32 ∷ [])) ++ text r) ++ (93 ∷ 32 ∷ []) ≡ tokens_text (place_tokens (Ends l r))
ends_text l r = simp (text_append, append_assoc) refl

pub case_text : (c : Case) → ((((99 ∷ 97 ∷ 115 ∷ 101 ∷ 32 ∷ []) ++ (40 ∷ 32 ∷ [])) ++ text c.cond) ++ (41 ∷ 32 ∷ [])) ++ tokens_text (slot_tokens c.slot)
    ≡ tokens_text (case_tokens c)
case_text c = simp (text_append, append_assoc) refl

pub set_text : (name : Ident) (e : Expr) → ((((123 ∷ 32 ∷ []) ++ (name.name ++ (32 ∷ []))) ++ (61 ∷ 32 ∷ [])) ++ text e) ++ (125 ∷ 32 ∷ [])
    ≡ tokens_text (set_tokens name e)
set_text name e = simp (text_append, append_assoc) refl

pub test_text : (e : Expr) → (((63 ∷ 32 ∷ []) ++ (40 ∷ 32 ∷ [])) ++ text e) ++ (41 ∷ 32 ∷ []) ≡ tokens_text (test_tokens e)
test_text e = simp (text_append, append_assoc) refl

pub repeat_text : (var item : Ident) (first last from to : Expr)
    → ((((((((102 ∷ 111 ∷ 114 ∷ 32 ∷ []) ++ (var.name ++ (32 ∷ []))) ++ (61 ∷ 32 ∷ [])) ++ text first) ++ (116 ∷ 111 ∷ 32 ∷ [])) ++ text last)
    ++ (100 ∷ 111 ∷ 32 ∷ []))
    ++ (item.name ++ (32 ∷ []))) ++ tokens_text (place_tokens (Ends from to))
    ≡ tokens_text (term_tokens (Repeat var first last item from to))
repeat_text var item first last from to = simp (text_append, append_assoc) refl

three_parts : (front middle end cases other : List ℕ) → (((front ++ cases) ++ middle) ++ other) ++ end ≡ front ++ (cases ++ (middle ++ (other ++ end)))
three_parts front middle end cases other = simp append_assoc refl

pub pick_text : (cases : List Case) (other : Slot)
    → (((((115 ∷ 119 ∷ 105 ∷ 116 ∷ 99 ∷ 104 ∷ 32 ∷ []) ++ (123 ∷ 32 ∷ [])) ++ tokens_text (cases_tokens cases)) ++ (101 ∷ 108 ∷ 115 ∷ 101 ∷ 32 ∷ []))
    ++ tokens_text (slot_tokens other)) ++ (125 ∷ 32 ∷ [])
    ≡ tokens_text (pick_tokens cases other)
pick_text cases other =
    three_parts (115 ∷ 119 ∷ 105 ∷ 116 ∷ 99 ∷ 104 ∷ 32 ∷ 123 ∷ 32 ∷ []) (101 ∷ 108 ∷ 115 ∷ 101 ∷ 32 ∷ []) (125 ∷ 32 ∷ []) (tokens_text (cases_tokens cases))
    (tokens_text (slot_tokens other))
    ∙ sym (ap (λ t. 115 ∷ 119 ∷ 105 ∷ 116 ∷ 99 ∷ 104 ∷ 32 ∷ 123 ∷ 32 ∷ t)
    (text_append (cases_tokens cases) (Word reserved.Else ∷ (slot_tokens other ++ (Symbol (codes "}") ∷ [])))
    ∙ ap (λ t. tokens_text (cases_tokens cases) ++ (101 ∷ 108 ∷ 115 ∷ 101 ∷ 32 ∷ t)) (text_append (slot_tokens other) (Symbol (codes "}") ∷ []))))

where_more : (r : Rule) (rest : List Rule)
    → (((119 ∷ 104 ∷ 101 ∷ 114 ∷ 101 ∷ 32 ∷ []) ++ (123 ∷ 32 ∷ [])) ++ tokens_text (locals_tokens (r ∷ rest))) ++ (125 ∷ 32 ∷ [])
    ≡ tokens_text (where_tokens (r ∷ rest))
where_more r rest = sym (ap (λ t. 119 ∷ 104 ∷ 101 ∷ 114 ∷ 101 ∷ 32 ∷ 123 ∷ 32 ∷ t) (text_append (locals_tokens (r ∷ rest)) (Symbol (codes "}") ∷ [])))

pub where_text : (rs : List Rule) → (length rs == 0) ≡ false
    → (((119 ∷ 104 ∷ 101 ∷ 114 ∷ 101 ∷ 32 ∷ []) ++ (123 ∷ 32 ∷ [])) ++ tokens_text (locals_tokens rs)) ++ (125 ∷ 32 ∷ []) ≡ tokens_text (where_tokens rs)
where_text [] some = absurd (true≢false some)
where_text (r ∷ rest) some = where_more r rest

pub rule_text : (name : List ℕ) (alts : List Alt) → ((name ++ (32 ∷ [])) ++ tokens_text (alts_tokens alts)) ++ (59 ∷ 10 ∷ [])
    ≡ name ++ (32 ∷ tokens_text (alts_tokens alts ++ (Symbol (codes ";") ∷ [])))
rule_text name alts = simp (text_append, append_assoc) refl

pub local_text : (name : List ℕ) (alts : List Alt) → ((name ++ (32 ∷ [])) ++ tokens_text (local_alts_tokens alts)) ++ (59 ∷ 10 ∷ [])
    ≡ name ++ (32 ∷ tokens_text (local_alts_tokens alts ++ (Symbol (codes ";") ∷ [])))
local_text name alts = simp (text_append, append_assoc) refl
