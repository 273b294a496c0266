-- The class of a token gives its kind back; and no token of a tree is a stray one.
use Rattle.std.proofs.Common.{◌≡◌, ℕ, List, [], ◌∷◌, ◌++◌, Result, Ok, Err, Bool, true, false, cond, map, refl, ap, ap₂, ◌∙◌, sym, subst, ◌==◌}
use Rattle.std.specs.Prelude.{bytes_eq}
use Rattle.std.proofs.lemmas.Bool.{eqb-true}
use Rattle.std.proofs.lemmas.Slice.Eq.{bytes_eq-Decides}
use Rattle.ipg_ast.specs.declared.grammar.Span.{Span}
use Rattle.ipg_ast.specs.declared.grammar.What.{What}
use Rattle.ipg_ast.specs.declared.grammar.What.TheVariants.{Text as TextWhat, Call}
use Rattle.ipg_ast.specs.declared.grammar.Field.{Field}
use Rattle.ipg_ast.specs.declared.grammar.Field.TheVariants.{Id as Attribute, Start, End}
use Rattle.ipg_ast.specs.declared.token.Reserved.{Reserved}
use Rattle.ipg_ast.specs.declared.token.Reserved.TheVariants as reserved
use Rattle.ipg_ast.specs.declared.token.TokenKind.{TokenKind}
use Rattle.ipg_ast.specs.declared.token.TokenKind.TheVariants.{Name, Word, Number, Text, Symbol}
use Rattle.ipg_ast.specs.Spelling.{grammar_tokens}
use Rattle.ipg_read_tokens.specs.declared.token.Token.{Token}
use Rattle.ipg_read_syntax.specs.Classes.{Tok, name, sign, question, colon, dot, comma, arrow, semicolon}
use Rattle.ipg_read_syntax.specs.Classes.{right_paren, right_bracket, right_brace, to_word, do_word}
use Rattle.ipg_read_syntax.specs.Classes.{else_word, stray, slash, word_class}
use Rattle.ipg_read_syntax.specs.Classes.{single_class, pair_class, kind_class, class_of, classes}
use Rattle.ipg_read_syntax.specs.Written.{Toks, ExprTree, num, eoi, own, part, item, group, neg, isnt, two, choose, PlaceTree, anywhere, long, ends}
use Rattle.ipg_read_syntax.specs.Written.{SlotTree, CaseTree, TermTree, slot_term, set_term, test_term, repeat_term, many_term, pick_term, LocalTree}
use Rattle.ipg_read_syntax.specs.Written.{AltTree, RuleTree, field_tok, what_tok, spell_expr, spell_place, spell_slot, spell_case, spell_cases, spell_term}
use Rattle.ipg_read_syntax.specs.Written.{spell_terms, spell_local_alts, spell_local, spell_locals, spell_where, spell_alt, spell_alts, spell_rule, spell}
use Rattle.ipg_read_canonical_laws.specs.Laws.{kinds, KeepsTokens}
use Rattle.ipg_read_canonical_laws.proofs.Spelt.{kind_of, kinds_of, spell_kinds}
use Rattle.ipg_read_canonical_laws.proofs.Classing.{first_or, others, first_of, singles, pairs}

-- a stray token gives nothing back, all others their kind
abbrev BackTo : TokenKind → Tok → Type 0
BackTo k stray = Unit {0}
BackTo k t = kind_of t ≡ k

by_kind : (k : TokenKind) (t : Tok) → kind_of t ≡ k → BackTo k t
by_kind k stray is = tt
by_kind k t is = is

-- where only `x` passes, and each token is of the kind of what stands beside it, it is of the kind of `x`
first_back : {A : Type 0} (kind : A → TokenKind) (test : A → Bool) (x : A) → ((y : A) → test y ≡ true → y ≡ x) → (ps : List (A × Tok))
    → map (λ p. kind_of p.1) ps ≡ map (λ p. kind p.0) ps
    → BackTo (kind x) (first_of test ps)
first_back kind test x only [] same = tt
first_back kind test x only (p ∷ ps) same = go (test p.0) refl (first_back kind test x only ps (ap others same))
  where
    go : (b : Bool) → test p.0 ≡ b → BackTo (kind x) (first_of test ps) → BackTo (kind x) (cond b p.1 (first_of test ps))
    go true is rest = by_kind (kind x) p.1 (ap (λ ks. first_or ks (kind p.0)) same ∙ ap kind (only p.0 is))
    go false is rest = rest

word_back : (w : Reserved) (at : Span) → BackTo (Word w) (word_class w at)
word_back reserved.For at = refl
word_back reserved.To at = refl
word_back reserved.Do at = refl
word_back reserved.Switch at = refl
word_back reserved.Case at = refl
word_back reserved.Else at = refl
word_back reserved.Where at = refl
word_back reserved.Start at = refl
word_back reserved.End at = refl
word_back reserved.Eoi at = refl
word_back reserved.Tok at = tt
word_back reserved.Many at = refl

single_back : (b : ℕ) (at : Span) → BackTo (Symbol (b ∷ [])) (single_class b at)
single_back b at = first_back (λ c. Symbol (c ∷ [])) (λ c. b == c) b (λ c is. sym (eqb-true b c is)) (singles at) refl

pair_back : (p : List ℕ) → BackTo (Symbol p) (pair_class p)
pair_back p = first_back Symbol (bytes_eq p) p (λ q is. sym ((bytes_eq-Decides p q).0 is)) pairs refl

kind_back : (k : TokenKind) (at : Span) → BackTo k (kind_class k at)
kind_back (Name bs) at = refl
kind_back (Word w) at = word_back w at
kind_back (Number z) at = refl
kind_back (Text bs) at = refl
kind_back (Symbol []) at = tt
kind_back (Symbol (b ∷ [])) at = single_back b at
kind_back (Symbol (b ∷ c ∷ bs)) at = pair_back (b ∷ c ∷ bs)

-- ---- no stray tokens

abbrev IsKnown : Tok → Type 0
IsKnown stray = ⊥
IsKnown t = Unit {0}

abbrev Known : Toks → Type 0
Known [] = Unit {0}
Known (t ∷ ts) = IsKnown t × Known ts

known_append : (xs ys : Toks) → Known xs → Known ys → Known (xs ++ ys)
known_append [] ys first rest = rest
known_append (x ∷ xs) ys first rest = (first.0, known_append xs ys first.1 rest)

field_known : (f : Field) → IsKnown (field_tok f)
field_known (Attribute i) = tt
field_known Start = tt
field_known End = tt

what_known : (w : What) (at : Span) → IsKnown (what_tok w at)
what_known (TextWhat bs) at = tt
what_known (Call n) at = tt

expr_known : (e : ExprTree) → Known (spell_expr e)
expr_known (num z) = (tt, tt)
expr_known eoi = (tt, tt)
expr_known (own i) = (tt, tt)
expr_known (part i f) = (tt, (tt, (field_known f, tt)))
expr_known (item i e f) = (tt, (tt, known_append (spell_expr e) (right_paren ∷ dot ∷ field_tok f ∷ []) (expr_known e) (tt, (tt, (field_known f, tt)))))
expr_known (group e) = (tt, known_append (spell_expr e) (right_paren ∷ []) (expr_known e) (tt, tt))
expr_known (neg e) = (tt, expr_known e)
expr_known (isnt e) = (tt, expr_known e)
expr_known (two i a b) = known_append (spell_expr a) (sign i ∷ spell_expr b) (expr_known a) (tt, expr_known b)
expr_known (choose c at a b) =
    known_append (spell_expr c) (question at ∷ (spell_expr a ++ (colon ∷ spell_expr b))) (expr_known c)
    (tt, known_append (spell_expr a) (colon ∷ spell_expr b) (expr_known a) (tt, expr_known b))

place_known : (p : PlaceTree) → Known (spell_place p)
place_known anywhere = tt
place_known (long e) = (tt, known_append (spell_expr e) (right_bracket ∷ []) (expr_known e) (tt, tt))
place_known (ends l r) = (
  tt,
  known_append (spell_expr l) (comma ∷ (spell_expr r ++ (right_bracket ∷ []))) (expr_known l)
      (tt, known_append (spell_expr r) (right_bracket ∷ []) (expr_known r) (tt, tt)),
)

slot_known : (s : SlotTree) → Known (spell_slot s)
slot_known s = (what_known s.what s.span, place_known s.place)

cases_known : (cs : List CaseTree) → Known (spell_cases cs)
cases_known [] = tt
cases_known (c ∷ cs) =
    known_append (spell_case c) (spell_cases cs)
    (tt, (tt, known_append (spell_expr c.test) (right_paren ∷ spell_slot c.slot) (expr_known c.test) (tt, slot_known c.slot))) (cases_known cs)

term_known : (t : TermTree) → Known (spell_term t)
term_known (slot_term s) = slot_known s
term_known (set_term x e) = (tt, (tt, (tt, known_append (spell_expr e) (right_brace ∷ []) (expr_known e) (tt, tt))))
term_known (test_term at e) = (tt, (tt, known_append (spell_expr e) (right_paren ∷ []) (expr_known e) (tt, tt)))
term_known (repeat_term x a b i l r) = (
  tt,
  (
    tt,
    (
      tt,
      known_append (spell_expr a) (to_word ∷ (spell_expr b ++ (do_word ∷ name i ∷ spell_place (ends l r)))) (expr_known a)
          (tt, known_append (spell_expr b) (do_word ∷ name i ∷ spell_place (ends l r)) (expr_known b) (tt, (tt, place_known (ends l r)))),
    ),
  ),
)
term_known (many_term at i p) = (tt, (tt, place_known p))
term_known (pick_term at cs s) = (
  tt,
  (
    tt,
    known_append (spell_cases cs) (else_word ∷ (spell_slot s ++ (right_brace ∷ []))) (cases_known cs)
        (tt, known_append (spell_slot s) (right_brace ∷ []) (slot_known s) (tt, tt)),
  ),
)

terms_known : (ts : List TermTree) → Known (spell_terms ts)
terms_known [] = tt
terms_known (t ∷ ts) = known_append (spell_term t) (spell_terms ts) (term_known t) (terms_known ts)

local_alts_known : (m : Tok) (las : List (List TermTree)) → IsKnown m → Known (spell_local_alts m las)
local_alts_known m [] known = tt
local_alts_known m (ts ∷ las) known = (known, known_append (spell_terms ts) (spell_local_alts slash las) (terms_known ts) (local_alts_known slash las tt))

locals_known : (ls : List LocalTree) → Known (spell_locals ls)
locals_known [] = tt
locals_known (l ∷ ls) =
    known_append (spell_local l) (spell_locals ls)
    (tt, known_append (spell_local_alts arrow l.alts) (semicolon ∷ []) (local_alts_known arrow l.alts tt) (tt, tt)) (locals_known ls)

where_known : (ls : List LocalTree) → Known (spell_where ls)
where_known [] = tt
where_known (l ∷ ls) = (tt, (tt, known_append (spell_locals (l ∷ ls)) (right_brace ∷ []) (locals_known (l ∷ ls)) (tt, tt)))

alts_known : (m : Tok) (alts : List AltTree) → IsKnown m → Known (spell_alts m alts)
alts_known m [] known = tt
alts_known m (a ∷ alts) known = (
  known,
  known_append (spell_alt a) (spell_alts slash alts) (known_append (spell_terms a.terms) (spell_where a.locals) (terms_known a.terms) (where_known a.locals))
      (alts_known slash alts tt),
)

spell_known : (rs : List RuleTree) → Known (spell rs)
spell_known [] = tt
spell_known (r ∷ rs) =
    known_append (spell_rule r) (spell rs) (tt, known_append (spell_alts arrow r.alts) (semicolon ∷ []) (alts_known arrow r.alts tt) (tt, tt)) (spell_known rs)

-- ---- the tokens of what is read

known_back : (k : TokenKind) (t : Tok) → IsKnown t → BackTo k t → kind_of t ≡ k
known_back k stray known back = absurd known
known_back k t known back = back

classes_back : (ts : List Token) → Known (classes ts) → kinds_of (classes ts) ≡ kinds ts
classes_back [] known = refl
classes_back (t ∷ ts) known = ap₂ (λ k ks. k ∷ ks) (known_back t.kind (class_of t) known.0 (kind_back t.kind t.span)) (classes_back ts known.1)

abbrev tokens_in : {F : Type 0} → Result (List Token) F → List Token → List Token
tokens_in (Ok ts) d = ts
tokens_in (Err f) d = d

pub keeps_tokens : KeepsTokens
keeps_tokens bytes g ts r falls =
    let tree : List RuleTree = r.tree in
    let same : r.reads.tokens ≡ ts = ap (λ l. tokens_in l ts) (sym r.reads.falls ∙ falls) in
    let spelled : spell tree ≡ classes ts = r.reads.spelled ∙ ap classes same in
    sym (classes_back ts (subst Known spelled (spell_known tree))) ∙ ap kinds_of (sym spelled) ∙ spell_kinds tree ∙ ap grammar_tokens (sym r.is)
