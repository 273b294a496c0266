-- A grammar as it is written: a tree for each rule of the grammar of grammars, its tokens, and when its expressions stand at their levels.
use Rattle.std.specs.Prelude.{ℕ, ◌+◌, ◌≤◌, List, [], ◌∷◌, ◌++◌, ℤ}
use Rattle.ipg_ast.specs.declared.grammar.Ident.{Ident}
use Rattle.ipg_ast.specs.declared.grammar.Span.{Span}
use Rattle.ipg_ast.specs.declared.grammar.What.{What}
use Rattle.ipg_ast.specs.declared.grammar.What.TheVariants.{Text as TextWhat, Call}
use Rattle.ipg_ast.specs.declared.grammar.Field.{Field}
use Rattle.ipg_ast.specs.declared.grammar.Field.TheVariants.{Id as Attribute, Start, End}
use Rattle.ipg_read_syntax.specs.Classes.{Infix, level, Tok, name, number, text, sign, bang, question, colon, dot, comma, equals, arrow, semicolon, left_paren}
use Rattle.ipg_read_syntax.specs.Classes.{right_paren, left_bracket, right_bracket, left_brace, right_brace, for_word, to_word, do_word, switch_word}
use Rattle.ipg_read_syntax.specs.Classes.{case_word, else_word, where_word, start_word, end_word, eoi_word, many_word, minus, slash}

abbrev pub Toks : Type 0
Toks = List Tok

-- ---- trees

-- a conditional keeps the place of its `?`
pub data ExprTree : Type 0 where
  num : ℤ → ExprTree
  eoi : ExprTree
  own : Ident → ExprTree
  part : Ident → Field → ExprTree
  item : Ident → ExprTree → Field → ExprTree
  group : ExprTree → ExprTree
  neg : ExprTree → ExprTree
  isnt : ExprTree → ExprTree
  two : Infix → ExprTree → ExprTree → ExprTree
  choose : ExprTree → Span → ExprTree → ExprTree → ExprTree

pub data PlaceTree : Type 0 where
  anywhere : PlaceTree
  long : ExprTree → PlaceTree
  ends : ExprTree → ExprTree → PlaceTree

pub record SlotTree : Type 0 where
  pub what : What
  pub span : Span
  pub place : PlaceTree

pub record CaseTree : Type 0 where
  pub test : ExprTree
  pub slot : SlotTree

pub data TermTree : Type 0 where
  slot_term : SlotTree → TermTree
  set_term : Ident → ExprTree → TermTree
  test_term : Span → ExprTree → TermTree
  repeat_term : Ident → ExprTree → ExprTree → Ident → ExprTree → ExprTree → TermTree
  many_term : Span → Ident → PlaceTree → TermTree
  pick_term : Span → List CaseTree → SlotTree → TermTree

pub record LocalTree : Type 0 where
  pub head : Ident
  pub alts : List (List TermTree)

-- without a local rule there is no `where`
pub record AltTree : Type 0 where
  pub terms : List TermTree
  pub locals : List LocalTree

pub record RuleTree : Type 0 where
  pub head : Ident
  pub alts : List AltTree

-- ---- tokens

abbrev pub field_tok : Field → Tok
field_tok (Attribute i) = name i
field_tok Start = start_word
field_tok End = end_word

abbrev pub spell_expr : ExprTree → Toks
spell_expr (num z) = number z ∷ []
spell_expr eoi = eoi_word ∷ []
spell_expr (own i) = name i ∷ []
spell_expr (part i f) = name i ∷ dot ∷ field_tok f ∷ []
spell_expr (item i e f) = name i ∷ left_paren ∷ (spell_expr e ++ (right_paren ∷ dot ∷ field_tok f ∷ []))
spell_expr (group e) = left_paren ∷ (spell_expr e ++ (right_paren ∷ []))
spell_expr (neg e) = minus ∷ spell_expr e
spell_expr (isnt e) = bang ∷ spell_expr e
spell_expr (two i a b) = spell_expr a ++ (sign i ∷ spell_expr b)
spell_expr (choose c at a b) = spell_expr c ++ (question at ∷ (spell_expr a ++ (colon ∷ spell_expr b)))

abbrev pub spell_place : PlaceTree → Toks
spell_place anywhere = []
spell_place (long e) = left_bracket ∷ (spell_expr e ++ (right_bracket ∷ []))
spell_place (ends l r) = left_bracket ∷ (spell_expr l ++ (comma ∷ (spell_expr r ++ (right_bracket ∷ []))))

abbrev pub what_tok : What → Span → Tok
what_tok (TextWhat bs) at = text bs at
what_tok (Call n) at = name (record { name = n; span = at })

abbrev pub spell_slot : SlotTree → Toks
spell_slot s = what_tok s.what s.span ∷ spell_place s.place

abbrev pub spell_case : CaseTree → Toks
spell_case c = case_word ∷ left_paren ∷ (spell_expr c.test ++ (right_paren ∷ spell_slot c.slot))

abbrev pub spell_cases : List CaseTree → Toks
spell_cases [] = []
spell_cases (c ∷ cs) = spell_case c ++ spell_cases cs

abbrev pub spell_term : TermTree → Toks
spell_term (slot_term s) = spell_slot s
spell_term (set_term x e) = left_brace ∷ name x ∷ equals ∷ (spell_expr e ++ (right_brace ∷ []))
spell_term (test_term at e) = question at ∷ left_paren ∷ (spell_expr e ++ (right_paren ∷ []))
spell_term (repeat_term x a b i l r) =
    for_word ∷ name x ∷ equals ∷ (spell_expr a ++ (to_word ∷ (spell_expr b ++ (do_word ∷ name i ∷ spell_place (ends l r)))))
spell_term (many_term at i p) = many_word at ∷ name i ∷ spell_place p
spell_term (pick_term at cs other) =
    switch_word at ∷ left_brace ∷ (spell_cases cs ++ (else_word ∷ (spell_slot other ++ (right_brace ∷ []))))

abbrev pub spell_terms : List TermTree → Toks
spell_terms [] = []
spell_terms (t ∷ ts) = spell_term t ++ spell_terms ts

-- each alternative with its mark before it: `->` the first, `/` the others
abbrev pub spell_local_alts : Tok → List (List TermTree) → Toks
spell_local_alts mark [] = []
spell_local_alts mark (ts ∷ rest) = mark ∷ (spell_terms ts ++ spell_local_alts slash rest)

abbrev pub spell_local : LocalTree → Toks
spell_local r = name r.head ∷ (spell_local_alts arrow r.alts ++ (semicolon ∷ []))

abbrev pub spell_locals : List LocalTree → Toks
spell_locals [] = []
spell_locals (r ∷ rs) = spell_local r ++ spell_locals rs

abbrev pub spell_where : List LocalTree → Toks
spell_where [] = []
spell_where (r ∷ rs) = where_word ∷ left_brace ∷ (spell_locals (r ∷ rs) ++ (right_brace ∷ []))

abbrev pub spell_alt : AltTree → Toks
spell_alt a = spell_terms a.terms ++ spell_where a.locals

abbrev pub spell_alts : Tok → List AltTree → Toks
spell_alts mark [] = []
spell_alts mark (a ∷ rest) = mark ∷ (spell_alt a ++ spell_alts slash rest)

abbrev pub spell_rule : RuleTree → Toks
spell_rule r = name r.head ∷ (spell_alts arrow r.alts ++ (semicolon ∷ []))

abbrev pub spell : List RuleTree → Toks
spell [] = []
spell (r ∷ rs) = spell_rule r ++ spell rs

-- ---- levels, and lists that need a member

-- the level of prefixes, above all operators between operands
abbrev pub prefix_level : ℕ
prefix_level = 10

-- an expression stands where one of the level, or a tighter one, is due
abbrev pub Stands : ℕ → ExprTree → Type 0
Stands l (num z) = Unit {0}
Stands l eoi = Unit {0}
Stands l (own i) = Unit {0}
Stands l (part i f) = Unit {0}
Stands l (item i e f) = Stands 0 e
Stands l (group e) = Stands 0 e
Stands l (neg e) = (l ≤ prefix_level) × Stands prefix_level e
Stands l (isnt e) = (l ≤ prefix_level) × Stands prefix_level e
Stands l (two i a b) = (l ≤ level i) × Stands (level i) a × Stands (level i + 1) b
Stands l (choose c at a b) = (l ≤ 0) × Stands 1 c × Stands 0 a × Stands 0 b

abbrev pub Each : {A : Type 0} → (A → Type 0) → List A → Type 0
Each P [] = Unit {0}
Each P (x ∷ xs) = P x × Each P xs

-- one at least, and each
abbrev pub SomeEach : {A : Type 0} → (A → Type 0) → List A → Type 0
SomeEach P [] = ⊥
SomeEach P (x ∷ xs) = P x × Each P xs

abbrev pub PlaceFits : PlaceTree → Type 0
PlaceFits anywhere = Unit {0}
PlaceFits (long e) = Stands 0 e
PlaceFits (ends l r) = Stands 0 l × Stands 0 r

abbrev pub SlotFits : SlotTree → Type 0
SlotFits s = PlaceFits s.place

abbrev pub CaseFits : CaseTree → Type 0
CaseFits c = Stands 0 c.test × SlotFits c.slot

abbrev pub TermFits : TermTree → Type 0
TermFits (slot_term s) = SlotFits s
TermFits (set_term x e) = Stands 0 e
TermFits (test_term at e) = Stands 0 e
TermFits (repeat_term x a b i l r) = Stands 0 a × Stands 0 b × Stands 0 l × Stands 0 r
TermFits (many_term at i p) = PlaceFits p
TermFits (pick_term at cs other) = SomeEach CaseFits cs × SlotFits other

abbrev pub TermsFit : List TermTree → Type 0
TermsFit = SomeEach TermFits

abbrev pub LocalFits : LocalTree → Type 0
LocalFits r = SomeEach TermsFit r.alts

abbrev pub AltFits : AltTree → Type 0
AltFits a = TermsFit a.terms × Each LocalFits a.locals

abbrev pub RuleFits : RuleTree → Type 0
RuleFits r = SomeEach AltFits r.alts

abbrev pub Fits : List RuleTree → Type 0
Fits = SomeEach RuleFits
