-- The kinds of a tree's tokens are the tokens of its grammar.
use Rattle.std.proofs.Common.{◌≡◌, ℕ, List, [], ◌∷◌, ◌++◌, refl, ap, ap₂, ◌∙◌, sym, codes, map}
use Rattle.ipg_ast.specs.declared.token.Reserved.TheVariants as reserved
use Rattle.ipg_ast.specs.declared.token.TokenKind.{TokenKind}
use Rattle.ipg_ast.specs.declared.token.TokenKind.TheVariants.{Name, Word, Number, Text, Symbol}
use Rattle.ipg_ast.specs.declared.grammar.Span.{Span}
use Rattle.ipg_ast.specs.declared.grammar.What.{What}
use Rattle.ipg_ast.specs.declared.grammar.What.TheVariants.{Text as TextWhat, Call}
use Rattle.ipg_ast.specs.declared.grammar.Field.{Field}
use Rattle.ipg_ast.specs.declared.grammar.Field.TheVariants.{Id as Attribute, Start, End}
use Rattle.ipg_ast.specs.declared.grammar.Expr.{Expr}
use Rattle.ipg_ast.specs.declared.grammar.Alt.{out-Alt, out-roll-Alt}
use Rattle.ipg_ast.specs.declared.grammar.Rule.{Rule, out-roll-Rule}
use Rattle.ipg_ast.specs.declared.grammar.Term.{Term}
use Rattle.ipg_ast.specs.Spelling.{Tokens, sign_of, field_tokens, expr_step, expr_tokens, place_tokens, what_token, slot_tokens, case_tokens}
use Rattle.ipg_ast.specs.Spelling.{cases_tokens, term_tokens, terms_tokens, local_alts_from, local_alts_tokens, local_tokens, locals_tokens}
use Rattle.ipg_ast.specs.Spelling.{where_tokens, alt_tokens, alts_from, alts_tokens, rule_tokens, rules_tokens, grammar_tokens}
use Rattle.ipg_read_syntax.specs.Classes.{Infix, either, both, op, Tok, name, number, text, sign, bang, question, colon, dot, comma, equals, arrow}
use Rattle.ipg_read_syntax.specs.Classes.{semicolon, left_paren, right_paren, left_bracket, right_bracket, left_brace, right_brace, for_word, to_word}
use Rattle.ipg_read_syntax.specs.Classes.{do_word, switch_word, case_word, else_word, where_word, start_word, end_word, eoi_word, many_word, stray, slash}
use Rattle.ipg_read_syntax.specs.Written.{Toks, ExprTree, num, eoi, own, part, item, group, neg, isnt, two, choose, PlaceTree, anywhere, long, ends}
use Rattle.ipg_read_syntax.specs.Written.{SlotTree, CaseTree, TermTree, slot_term, set_term, test_term, repeat_term, many_term, pick_term, LocalTree}
use Rattle.ipg_read_syntax.specs.Written.{AltTree, RuleTree, field_tok, what_tok, spell_expr, spell_place, spell_slot, spell_case, spell_cases, spell_term}
use Rattle.ipg_read_syntax.specs.Written.{spell_terms, spell_local_alts, spell_local, spell_locals, spell_where, spell_alt, spell_alts, spell_rule, spell}
use Rattle.ipg_read_syntax.specs.Grammars.{infix_expr, made_expr, made_place, made_slot, made_case, made_term, alt_of}
use Rattle.ipg_read_syntax.specs.Grammars.{made_local_alt, made_local, made_alt, made_rule, grammar_of}
use Rattle.ipg_ast.specs.Folds.{at_both, at_cond, at_either, at_eoi, at_group, at_id, at_item, at_neg, at_not, at_num, at_part, at_two}

abbrev pub infix_sign : Infix → List ℕ
infix_sign either = codes "||"
infix_sign both = codes "&&"
infix_sign (op o) = sign_of o

abbrev pub kind_of : Tok → TokenKind
kind_of (name i) = Name i.name
kind_of (number z) = Number z
kind_of (text bs at) = Text bs
kind_of (sign i) = Symbol (infix_sign i)
kind_of bang = Symbol (codes "!")
kind_of (question at) = Symbol (codes "?")
kind_of colon = Symbol (codes ":")
kind_of dot = Symbol (codes ".")
kind_of comma = Symbol (codes ",")
kind_of equals = Symbol (codes "=")
kind_of arrow = Symbol (codes "->")
kind_of semicolon = Symbol (codes ";")
kind_of left_paren = Symbol (codes "(")
kind_of right_paren = Symbol (codes ")")
kind_of left_bracket = Symbol (codes "[")
kind_of right_bracket = Symbol (codes "]")
kind_of left_brace = Symbol (codes "{")
kind_of right_brace = Symbol (codes "}")
kind_of for_word = Word reserved.For
kind_of to_word = Word reserved.To
kind_of do_word = Word reserved.Do
kind_of (switch_word at) = Word reserved.Switch
kind_of case_word = Word reserved.Case
kind_of else_word = Word reserved.Else
kind_of where_word = Word reserved.Where
kind_of start_word = Word reserved.Start
kind_of end_word = Word reserved.End
kind_of eoi_word = Word reserved.Eoi
kind_of (many_word at) = Word reserved.Many
kind_of stray = Symbol []

abbrev pub kinds_of : Toks → Tokens
kinds_of [] = []
kinds_of (t ∷ ts) = kind_of t ∷ kinds_of ts

pub kinds_append : (xs ys : Toks) → kinds_of (xs ++ ys) ≡ kinds_of xs ++ kinds_of ys
kinds_append [] ys = refl
kinds_append (x ∷ xs) ys = ap (λ ts. kind_of x ∷ ts) (kinds_append xs ys)

-- two parts in a row
in_a_row : (xs ys : Toks) (ks ls : Tokens) → kinds_of xs ≡ ks → kinds_of ys ≡ ls → kinds_of (xs ++ ys) ≡ ks ++ ls
in_a_row xs ys ks ls first rest = kinds_append xs ys ∙ ap₂ (λ a b. a ++ b) first rest

field_kind : (f : Field) → kind_of (field_tok f) ∷ [] ≡ field_tokens f
field_kind (Attribute i) = refl
field_kind Start = refl
field_kind End = refl

expr_kinds : (e : ExprTree) → kinds_of (spell_expr e) ≡ expr_tokens (made_expr e)
expr_kinds (num z) = sym (at_num expr_step z)
expr_kinds eoi = sym (at_eoi expr_step)
expr_kinds (own i) = sym (at_id expr_step i)
expr_kinds (part i f) =
    ap (λ ts. Name i.name ∷ Symbol (codes ".") ∷ ts) (field_kind f)
    ∙ sym (at_part expr_step i f)
expr_kinds (item i e f) =
    let x : Expr = made_expr e in
    ap (λ ts. Name i.name ∷ Symbol (codes "(") ∷ ts)
    (in_a_row (spell_expr e) (right_paren ∷ dot ∷ field_tok f ∷ []) (expr_tokens x) (Symbol (codes ")") ∷ Symbol (codes ".") ∷ field_tokens f) (expr_kinds e)
    (ap (λ ts. Symbol (codes ")") ∷ Symbol (codes ".") ∷ ts) (field_kind f)))
    ∙ sym (at_item expr_step i x f)
expr_kinds (group e) =
    let x : Expr = made_expr e in
    ap (λ ts. Symbol (codes "(") ∷ ts) (in_a_row (spell_expr e) (right_paren ∷ []) (expr_tokens x) (Symbol (codes ")") ∷ []) (expr_kinds e) refl)
    ∙ sym (at_group expr_step x)
expr_kinds (neg e) =
    let x : Expr = made_expr e in
    ap (λ ts. Symbol (codes "-") ∷ ts) (expr_kinds e) ∙ sym (at_neg expr_step x)
expr_kinds (isnt e) =
    let x : Expr = made_expr e in
    ap (λ ts. Symbol (codes "!") ∷ ts) (expr_kinds e) ∙ sym (at_not expr_step x)
expr_kinds (two i a b) =
    let x : Expr = made_expr a in
    let y : Expr = made_expr b in
    in_a_row (spell_expr a) (sign i ∷ spell_expr b) (expr_tokens x) (Symbol (infix_sign i) ∷ expr_tokens y) (expr_kinds a)
    (ap (λ ts. Symbol (infix_sign i) ∷ ts) (expr_kinds b))
    ∙ sym (infix_tokens i x y)
  where
    infix_tokens : (i : Infix) (x y : Expr) → expr_tokens (infix_expr i x y) ≡ expr_tokens x ++ (Symbol (infix_sign i) ∷ expr_tokens y)
    infix_tokens either x y = at_either expr_step x y
    infix_tokens both x y = at_both expr_step x y
    infix_tokens (op o) x y = at_two expr_step o x y
expr_kinds (choose c at a b) =
    let w : Expr = made_expr c in
    let x : Expr = made_expr a in
    let y : Expr = made_expr b in
    in_a_row (spell_expr c) (question at ∷ (spell_expr a ++ (colon ∷ spell_expr b))) (expr_tokens w)
    (Symbol (codes "?") ∷ (expr_tokens x ++ (Symbol (codes ":") ∷ expr_tokens y))) (expr_kinds c)
    (ap (λ ts. Symbol (codes "?") ∷ ts) (in_a_row (spell_expr a) (colon ∷ spell_expr b) (expr_tokens x) (Symbol (codes ":") ∷ expr_tokens y) (expr_kinds a)
    (ap (λ ts. Symbol (codes ":") ∷ ts) (expr_kinds b))))
    ∙ sym (at_cond expr_step w x y)

place_kinds : (p : PlaceTree) → kinds_of (spell_place p) ≡ place_tokens (made_place p)
place_kinds anywhere = refl
place_kinds (long e) =
    ap (λ ts. Symbol (codes "[") ∷ ts) (in_a_row (spell_expr e) (right_bracket ∷ []) (expr_tokens (made_expr e)) (Symbol (codes "]") ∷ [])
    (expr_kinds e) refl)
place_kinds (ends l r) =
    let x : Tokens = expr_tokens (made_expr l) in
    let y : Tokens = expr_tokens (made_expr r) in
    ap (λ ts. Symbol (codes "[") ∷ ts) (in_a_row (spell_expr l) (comma ∷ (spell_expr r ++ (right_bracket ∷ []))) x
    (Symbol (codes ",") ∷ (y ++ (Symbol (codes "]") ∷ []))) (expr_kinds l)
    (ap (λ ts. Symbol (codes ",") ∷ ts) (in_a_row (spell_expr r) (right_bracket ∷ []) y (Symbol (codes "]") ∷ []) (expr_kinds r) refl)))

what_kind : (w : What) (at : Span) → kind_of (what_tok w at) ≡ what_token w
what_kind (TextWhat bs) at = refl
what_kind (Call n) at = refl

slot_kinds : (s : SlotTree) → kinds_of (spell_slot s) ≡ slot_tokens (made_slot s)
slot_kinds s = ap₂ (λ t ts. t ∷ ts) (what_kind s.what s.span) (place_kinds s.place)

case_kinds : (c : CaseTree) → kinds_of (spell_case c) ≡ case_tokens (made_case c)
case_kinds c = ap (λ ts. Word reserved.Case ∷ Symbol (codes "(") ∷ ts)
    (in_a_row (spell_expr c.test) (right_paren ∷ spell_slot c.slot) (expr_tokens (made_expr c.test))
    (Symbol (codes ")") ∷ slot_tokens (made_slot c.slot)) (expr_kinds c.test)
    (ap (λ ts. Symbol (codes ")") ∷ ts) (slot_kinds c.slot)))

cases_kinds : (cs : List CaseTree) → kinds_of (spell_cases cs) ≡ cases_tokens (map made_case cs)
cases_kinds [] = refl
cases_kinds (c ∷ cs) = in_a_row (spell_case c) (spell_cases cs) (case_tokens (made_case c)) (cases_tokens (map made_case cs)) (case_kinds c) (cases_kinds cs)

term_kinds : (t : TermTree) → kinds_of (spell_term t) ≡ term_tokens (made_term t)
term_kinds (slot_term s) = slot_kinds s
term_kinds (set_term x e) = ap (λ ts. Symbol (codes "{") ∷ Name x.name ∷ Symbol (codes "=") ∷ ts)
    (in_a_row (spell_expr e) (right_brace ∷ []) (expr_tokens (made_expr e)) (Symbol (codes "}") ∷ []) (expr_kinds e) refl)
term_kinds (test_term at e) = ap (λ ts. Symbol (codes "?") ∷ Symbol (codes "(") ∷ ts)
    (in_a_row (spell_expr e) (right_paren ∷ []) (expr_tokens (made_expr e)) (Symbol (codes ")") ∷ []) (expr_kinds e) refl)
term_kinds (repeat_term x a b i l r) =
    let end : Tokens = Word reserved.Do ∷ Name i.name ∷ place_tokens (made_place (ends l r)) in
    ap (λ ts. Word reserved.For ∷ Name x.name ∷ Symbol (codes "=") ∷ ts)
    (in_a_row (spell_expr a) (to_word ∷ (spell_expr b ++ (do_word ∷ name i ∷ spell_place (ends l r)))) (expr_tokens (made_expr a))
    (Word reserved.To ∷ (expr_tokens (made_expr b) ++ end)) (expr_kinds a)
    (ap (λ ts. Word reserved.To ∷ ts) (in_a_row (spell_expr b) (do_word ∷ name i ∷ spell_place (ends l r)) (expr_tokens (made_expr b)) end (expr_kinds b)
    (ap (λ ts. Word reserved.Do ∷ Name i.name ∷ ts) (place_kinds (ends l r))))))
term_kinds (many_term at i p) = ap (λ ts. Word reserved.Many ∷ Name i.name ∷ ts) (place_kinds p)
term_kinds (pick_term at cs s) =
    let end : Tokens = Word reserved.Else ∷ (slot_tokens (made_slot s) ++ (Symbol (codes "}") ∷ [])) in
    ap (λ ts. Word reserved.Switch ∷ Symbol (codes "{") ∷ ts)
    (in_a_row (spell_cases cs) (else_word ∷ (spell_slot s ++ (right_brace ∷ []))) (cases_tokens (map made_case cs)) end
    (cases_kinds cs)
    (ap (λ ts. Word reserved.Else ∷ ts) (in_a_row (spell_slot s) (right_brace ∷ []) (slot_tokens (made_slot s)) (Symbol (codes "}") ∷ [])
    (slot_kinds s) refl)))

terms_kinds : (ts : List TermTree) → kinds_of (spell_terms ts) ≡ terms_tokens (map made_term ts)
terms_kinds [] = refl
terms_kinds (t ∷ ts) = in_a_row (spell_term t) (spell_terms ts) (term_tokens (made_term t)) (terms_tokens (map made_term ts)) (term_kinds t)
    (terms_kinds ts)

terms_in : (ts : List Term) (ls : List Rule) → (out-Alt (alt_of ts ls)).terms ≡ ts
terms_in ts ls = ap (λ a. a.terms) (out-roll-Alt (record { terms = ts; locals = ls }))

local_alts_kinds : (m : Tok) (las : List (List TermTree)) → kinds_of (spell_local_alts m las) ≡ local_alts_from (kind_of m) (map made_local_alt las)
local_alts_kinds m [] = refl
local_alts_kinds m (ts ∷ las) = ap (λ toks. kind_of m ∷ toks)
    (in_a_row (spell_terms ts) (spell_local_alts slash las) (terms_tokens (out-Alt (made_local_alt ts)).terms)
    (local_alts_from (Symbol (codes "/")) (map made_local_alt las))
    (terms_kinds ts ∙ ap terms_tokens (sym (terms_in (map made_term ts) []))) (local_alts_kinds slash las))

local_kinds : (l : LocalTree) → kinds_of (spell_local l) ≡ local_tokens (made_local l)
local_kinds l =
    ap (λ toks. Name l.head.name ∷ toks)
    (in_a_row (spell_local_alts arrow l.alts) (semicolon ∷ []) (local_alts_tokens (map made_local_alt l.alts)) (Symbol (codes ";") ∷ [])
    (local_alts_kinds arrow l.alts) refl)
    ∙ ap (λ r. Name r.name.name ∷ (local_alts_tokens r.alts ++ (Symbol (codes ";") ∷ [])))
    (sym (out-roll-Rule (record { name = l.head; alts = map made_local_alt l.alts })))

locals_kinds : (ls : List LocalTree) → kinds_of (spell_locals ls) ≡ locals_tokens (map made_local ls)
locals_kinds [] = refl
locals_kinds (l ∷ ls) = in_a_row (spell_local l) (spell_locals ls) (local_tokens (made_local l)) (locals_tokens (map made_local ls)) (local_kinds l)
    (locals_kinds ls)

where_kinds : (ls : List LocalTree) → kinds_of (spell_where ls) ≡ where_tokens (map made_local ls)
where_kinds [] = refl
where_kinds (l ∷ ls) = ap (λ toks. Word reserved.Where ∷ Symbol (codes "{") ∷ toks)
    (in_a_row (spell_locals (l ∷ ls)) (right_brace ∷ []) (locals_tokens (map made_local (l ∷ ls))) (Symbol (codes "}") ∷ []) (locals_kinds (l ∷ ls)) refl)

alt_kinds : (a : AltTree) → kinds_of (spell_alt a) ≡ alt_tokens (made_alt a)
alt_kinds a =
    let ts : List Term = map made_term a.terms in
    let ls : List Rule = map made_local a.locals in
    in_a_row (spell_terms a.terms) (spell_where a.locals) (terms_tokens ts) (where_tokens ls) (terms_kinds a.terms) (where_kinds a.locals)
    ∙ ap (λ x. terms_tokens x.terms ++ where_tokens x.locals) (sym (out-roll-Alt (record { terms = ts; locals = ls })))

alts_kinds : (m : Tok) (alts : List AltTree) → kinds_of (spell_alts m alts) ≡ alts_from (kind_of m) (map made_alt alts)
alts_kinds m [] = refl
alts_kinds m (a ∷ alts) = ap (λ toks. kind_of m ∷ toks)
    (in_a_row (spell_alt a) (spell_alts slash alts) (alt_tokens (made_alt a)) (alts_from (Symbol (codes "/")) (map made_alt alts)) (alt_kinds a)
    (alts_kinds slash alts))

rule_kinds : (r : RuleTree) → kinds_of (spell_rule r) ≡ rule_tokens (made_rule r)
rule_kinds r =
    ap (λ toks. Name r.head.name ∷ toks)
    (in_a_row (spell_alts arrow r.alts) (semicolon ∷ []) (alts_tokens (map made_alt r.alts)) (Symbol (codes ";") ∷ []) (alts_kinds arrow r.alts) refl)
    ∙ ap (λ x. Name x.name.name ∷ (alts_tokens x.alts ++ (Symbol (codes ";") ∷ [])))
    (sym (out-roll-Rule (record { name = r.head; alts = map made_alt r.alts })))

rules_kinds : (rs : List RuleTree) → kinds_of (spell rs) ≡ rules_tokens (map made_rule rs)
rules_kinds [] = refl
rules_kinds (r ∷ rs) = in_a_row (spell_rule r) (spell rs) (rule_tokens (made_rule r)) (rules_tokens (map made_rule rs)) (rule_kinds r) (rules_kinds rs)

-- the kinds of a tree's tokens
pub spell_kinds : (rs : List RuleTree) → kinds_of (spell rs) ≡ grammar_tokens (grammar_of rs)
spell_kinds = rules_kinds
