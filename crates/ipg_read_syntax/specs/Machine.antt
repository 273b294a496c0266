-- The machine that reads a grammar token by token, with an explicit stack; what it makes is left to the actions that it is given.
use Rattle.std.specs.Prelude.{ℕ, ◌+◌, List, [], ◌∷◌, ℤ, Option, Some, None, Result, Ok, Err, nat_le, if◌then◌else◌}
use Rattle.ipg_num.specs.declared.op.Op2.TheVariants.{Sub, Div}
use Rattle.ipg_ast.specs.declared.grammar.Ident.{Ident}
use Rattle.ipg_ast.specs.declared.grammar.Span.{Span}
use Rattle.ipg_ast.specs.declared.grammar.What.{What}
use Rattle.ipg_ast.specs.declared.grammar.What.TheVariants.{Text as TextWhat, Call}
use Rattle.ipg_ast.specs.declared.grammar.Field.{Field}
use Rattle.ipg_ast.specs.declared.grammar.Field.TheVariants.{Id as Attribute, Start, End}
use Rattle.ipg_read_syntax.specs.Classes.{Infix, op, level, Tok, name, number, text, sign, bang, question, colon, dot, comma, equals, arrow, semicolon}
use Rattle.ipg_read_syntax.specs.Classes.{left_paren, right_paren, left_bracket, right_bracket, left_brace, right_brace, for_word, to_word, do_word}
use Rattle.ipg_read_syntax.specs.Classes.{switch_word, case_word, else_word, where_word, start_word, end_word, eoi_word, many_word}

-- what is made of each form, and a log that is told of rule heads, alternatives, terms and whole expressions
pub record Acts : Type 1 where
  pub Expr : Type 0
  pub Place : Type 0
  pub Slot : Type 0
  pub Cases : Type 0
  pub Term : Type 0
  pub Terms : Type 0
  pub LocalAlts : Type 0
  pub Locals : Type 0
  pub Alts : Type 0
  pub Rules : Type 0
  pub Log : Type 0
  pub num : ℤ → Expr
  pub eoi : Expr
  pub own : Ident → Expr
  pub part : Ident → Field → Expr
  pub item : Ident → Expr → Field → Expr
  pub group : Expr → Expr
  pub neg : Expr → Expr
  pub isnt : Expr → Expr
  pub two : Infix → Expr → Expr → Expr
  pub choose : Expr → Span → Expr → Expr → Expr
  pub anywhere : Place
  pub long : Expr → Place
  pub ends : Expr → Expr → Place
  pub slot : What → Span → Place → Slot
  pub no_cases : Cases
  pub with_case : Cases → Expr → Slot → Cases
  pub slot_term : Slot → Term
  pub set_term : Ident → Expr → Term
  pub test_term : Span → Expr → Term
  pub repeat_term : Ident → Expr → Expr → Ident → Expr → Expr → Term
  pub many_term : Span → Ident → Place → Term
  pub pick_term : Span → Cases → Slot → Term
  pub no_terms : Terms
  pub with_term : Terms → Term → Terms
  pub no_local_alts : LocalAlts
  pub with_local_alt : LocalAlts → Terms → LocalAlts
  pub no_locals : Locals
  pub with_local : Locals → Ident → LocalAlts → Locals
  pub no_alts : Alts
  pub with_alt : Alts → Terms → Locals → Alts
  pub no_rules : Rules
  pub with_rule : Rules → Ident → Alts → Rules
  pub blank : Log
  pub saw_rule : ℕ → Log → Log
  pub saw_local_alt : LocalAlts → ℕ → Log → Log
  pub saw_alt : Alts → ℕ → Log → Log
  pub saw_term : Terms → ℕ → Log → Log
  pub saw_expr : Expr → ℕ → Log → Log

-- ---- positions

-- what waits inside an expression for the operand that is being read
pub data Frame (A : Acts) : Type 0 where
  neg : Frame A
  isnt : Frame A
  left : Infix → A.Expr → Frame A
  group : Frame A
  index : Ident → Frame A
  then_of : A.Expr → Span → Frame A
  else_of : A.Expr → Span → A.Expr → Frame A

-- an operand is due, or stands complete; or a name, a `.` or an index is to be gone on with
pub data Inner (A : Acts) : Type 0 where
  want : List (Frame A) → Inner A
  have : List (Frame A) → A.Expr → Inner A
  named : List (Frame A) → Ident → Inner A
  dotted : List (Frame A) → Ident → Inner A
  indexed : List (Frame A) → Ident → A.Expr → Inner A
  index_dotted : List (Frame A) → Ident → A.Expr → Inner A

-- a slot is a term, or stands in a `case`, or after `else`
pub data SlotUse (A : Acts) : Type 0 where
  alone : SlotUse A
  chosen : Span → A.Cases → A.Expr → SlotUse A
  other : Span → A.Cases → SlotUse A

-- what a whole expression is for
pub data Base (A : Acts) : Type 0 where
  length_or_left : SlotUse A → What → Span → Base A
  right_of : SlotUse A → What → Span → A.Expr → Base A
  value_of : Ident → Base A
  test_of : Span → Base A
  first_bound : Ident → Base A
  last_bound : Ident → A.Expr → Base A
  item_left : Ident → A.Expr → A.Expr → Ident → Base A
  item_right : Ident → A.Expr → A.Expr → Ident → A.Expr → Base A
  many_length_or_left : Span → Ident → Base A
  many_right : Span → Ident → A.Expr → Base A
  case_of : Span → A.Cases → Base A

-- a place within a term; an expression has the number of its first token
pub data Part (A : Acts) : Type 0 where
  slot_named : SlotUse A → What → Span → Part A
  expr : Base A → ℕ → Inner A → Part A
  set_open : Part A
  set_named : Ident → Part A
  test_open : Span → Part A
  repeat_open : Part A
  repeat_named : Ident → Part A
  item_due : Ident → A.Expr → A.Expr → Part A
  item_named : Ident → A.Expr → A.Expr → Ident → Part A
  many_open : Span → Part A
  many_named : Span → Ident → Part A
  pick_open : Span → Part A
  first_case : Span → Part A
  next_case : Span → A.Cases → Part A
  case_open : Span → A.Cases → Part A
  slot_due : SlotUse A → Part A
  pick_close : Span → A.Cases → A.Slot → Part A

-- a global rule whose alternatives are being read, with what stands before
pub record Head (A : Acts) : Type 0 where
  pub rules : A.Rules
  pub name : Ident
  pub alts : A.Alts

-- the alternative that is being read is one of a global rule, or of a local one in the `where` of `terms`
pub data Site (A : Acts) : Type 0 where
  global : Head A → Site A
  local : Head A → A.Terms → A.Locals → Ident → A.LocalAlts → Site A

pub data Pos (A : Acts) : Type 0 where
  start : Pos A
  between : A.Rules → Pos A
  rule_named : A.Rules → Ident → Pos A
  local_named : Head A → A.Terms → A.Locals → Ident → Pos A
  before_term : Site A → Pos A
  in_term : Site A → A.Terms → Part A → Pos A
  after_term : Site A → A.Terms → Pos A
  where_named : Head A → A.Terms → Pos A
  before_local : Head A → A.Terms → Pos A
  after_local : Head A → A.Terms → A.Locals → Pos A
  after_where : Head A → Pos A

pub record State (A : Acts) : Type 0 where
  pub log : A.Log
  pub pos : Pos A

-- ---- expressions

-- the frames that are left when those that bind at least as tightly as the level are closed over an operand
pub record Closing (A : Acts) : Type 0 where
  pub frames : List (Frame A)
  pub operand : A.Expr

abbrev pub close : (A : Acts) → ℕ → List (Frame A) → A.Expr → Closing A
close A p [] e = record { frames = []; operand = e }
close A p (neg ∷ fs) e = close A p fs (A.neg e)
close A p (isnt ∷ fs) e = close A p fs (A.isnt e)
close A p (left i a ∷ fs) e = if nat_le p (level i) then close A p fs (A.two i a e) else record { frames = left i a ∷ fs; operand = e }
close A p (group ∷ fs) e = record { frames = group ∷ fs; operand = e }
close A p (index i ∷ fs) e = record { frames = index i ∷ fs; operand = e }
close A p (then_of c at ∷ fs) e = record { frames = then_of c at ∷ fs; operand = e }
close A p (else_of c at a ∷ fs) e = if nat_le p 0 then close A p fs (A.choose c at a e) else record { frames = else_of c at a ∷ fs; operand = e }

-- a step within a term goes on in it, or ends it, or finds that it ended before the token
pub data Turn (A : Acts) : Type 0 where
  still : A.Log → Part A → Turn A
  done : A.Log → A.Term → Turn A
  passed : A.Log → A.Term → Turn A

abbrev pub want_move : (A : Acts) → List (Frame A) → Tok → Option (Inner A)
want_move A fs (number z) = Some (have fs (A.num z))
want_move A fs eoi_word = Some (have fs A.eoi)
want_move A fs (name i) = Some (named fs i)
want_move A fs left_paren = Some (want (group ∷ fs))
want_move A fs (sign (op Sub)) = Some (want (neg ∷ fs))
want_move A fs bang = Some (want (isnt ∷ fs))
want_move A fs t = None

abbrev pub field_of : Tok → Option Field
field_of (name i) = Some (Attribute i)
field_of start_word = Some Start
field_of end_word = Some End
field_of t = None

abbrev pub part_made : (A : Acts) → List (Frame A) → Ident → Option Field → Option (Inner A)
part_made A fs i (Some f) = Some (have fs (A.part i f))
part_made A fs i None = None

abbrev pub item_made : (A : Acts) → List (Frame A) → Ident → A.Expr → Option Field → Option (Inner A)
item_made A fs i e (Some f) = Some (have fs (A.item i e f))
item_made A fs i e None = None

abbrev pub dot_move : (A : Acts) → List (Frame A) → Ident → A.Expr → Tok → Option (Inner A)
dot_move A fs i e dot = Some (index_dotted fs i e)
dot_move A fs i e t = None

-- an operator takes what binds at least as tightly before it as its left operand
abbrev pub with_left : {A : Acts} → Infix → Closing A → Inner A
with_left i c = want (left i c.operand ∷ c.frames)

abbrev pub with_test : {A : Acts} → Span → Closing A → Inner A
with_test at c = want (then_of c.operand at ∷ c.frames)

-- ---- slots

abbrev pub slot_opening : (A : Acts) → SlotUse A → Tok → Option (Part A)
slot_opening A use_of (text bs at) = Some (slot_named use_of (TextWhat bs) at)
slot_opening A use_of (name i) = Some (slot_named use_of (Call i.name) i.span)
slot_opening A use_of t = None

-- a slot ended with its last token
abbrev pub slot_done : (A : Acts) → A.Log → SlotUse A → A.Slot → Turn A
slot_done A log alone s = done log (A.slot_term s)
slot_done A log (chosen at cs c) s = still log (next_case at (A.with_case cs c s))
slot_done A log (other at cs) s = still log (pick_close at cs s)

abbrev pub stays : (A : Acts) → A.Log → Option (Part A) → Option (Turn A)
stays A log (Some p) = Some (still log p)
stays A log None = None

abbrev pub case_move : (A : Acts) → A.Log → Span → A.Cases → Tok → Option (Turn A)
case_move A log at cs case_word = Some (still log (case_open at cs))
case_move A log at cs else_word = Some (still log (slot_due (other at cs)))
case_move A log at cs t = None

abbrev pub close_move : (A : Acts) → A.Log → Span → A.Cases → A.Slot → Tok → Option (Turn A)
close_move A log at cs s right_brace = Some (done log (A.pick_term at cs s))
close_move A log at cs s t = None

-- a slot ended before the token
abbrev pub slot_passed : (A : Acts) → A.Log → SlotUse A → A.Slot → Tok → Option (Turn A)
slot_passed A log alone s t = Some (passed log (A.slot_term s))
slot_passed A log (chosen at cs c) s t = case_move A log at (A.with_case cs c s) t
slot_passed A log (other at cs) s t = close_move A log at cs s t

abbrev pub slot_move : (A : Acts) → ℕ → A.Log → SlotUse A → What → Span → Tok → Option (Turn A)
slot_move A at log use_of what span left_bracket = Some (still log (expr (length_or_left use_of what span) (at + 1) (want [])))
slot_move A at log use_of what span t = slot_passed A log use_of (A.slot what span A.anywhere) t

-- ---- whole expressions

-- what follows a whole expression; the log is told of it
abbrev pub ended : (A : Acts) → ℕ → A.Log → Base A → A.Expr → Tok → Option (Turn A)
ended A at log (length_or_left u what span) e right_bracket = Some (slot_done A log u (A.slot what span (A.long e)))
ended A at log (length_or_left u what span) e comma = Some (still log (expr (right_of u what span e) (at + 1) (want [])))
ended A at log (right_of u what span l) e right_bracket = Some (slot_done A log u (A.slot what span (A.ends l e)))
ended A at log (value_of x) e right_brace = Some (done log (A.set_term x e))
ended A at log (test_of span) e right_paren = Some (done log (A.test_term span e))
ended A at log (first_bound x) e to_word = Some (still log (expr (last_bound x e) (at + 1) (want [])))
ended A at log (last_bound x a) e do_word = Some (still log (item_due x a e))
ended A at log (item_left x a b i) e comma = Some (still log (expr (item_right x a b i e) (at + 1) (want [])))
ended A at log (item_right x a b i l) e right_bracket = Some (done log (A.repeat_term x a b i l e))
ended A at log (many_length_or_left span i) e right_bracket = Some (done log (A.many_term span i (A.long e)))
ended A at log (many_length_or_left span i) e comma = Some (still log (expr (many_right span i e) (at + 1) (want [])))
ended A at log (many_right span i l) e right_bracket = Some (done log (A.many_term span i (A.ends l e)))
ended A at log (case_of span cs) e right_paren = Some (still log (slot_due (chosen span cs e)))
ended A at log base e t = None

-- the token after an operand, with all frames closed up to the nearest bracket
abbrev pub finish : (A : Acts) → ℕ → A.Log → Base A → ℕ → List (Frame A) → A.Expr → Tok → Option (Turn A)
finish A at log base first [] e t = ended A at (A.saw_expr e first log) base e t
finish A at log base first (group ∷ fs) e right_paren = Some (still log (expr base first (have fs (A.group e))))
finish A at log base first (index i ∷ fs) e right_paren = Some (still log (expr base first (indexed fs i e)))
finish A at log base first (then_of c span ∷ fs) e colon = Some (still log (expr base first (want (else_of c span e ∷ fs))))
finish A at log base first fs e t = None

abbrev pub finished : (A : Acts) → ℕ → A.Log → Base A → ℕ → Closing A → Tok → Option (Turn A)
finished A at log base first c t = finish A at log base first c.frames c.operand t

abbrev pub have_move : (A : Acts) → ℕ → A.Log → Base A → ℕ → List (Frame A) → A.Expr → Tok → Option (Turn A)
have_move A at log base first fs e (sign i) = Some (still log (expr base first (with_left i (close A (level i) fs e))))
have_move A at log base first fs e (question span) = Some (still log (expr base first (with_test span (close A 1 fs e))))
have_move A at log base first fs e t = finished A at log base first (close A 0 fs e) t

-- a name alone, where no `.` and no `(` follows
abbrev pub name_move : (A : Acts) → ℕ → A.Log → Base A → ℕ → List (Frame A) → Ident → Tok → Option (Turn A)
name_move A at log base first fs i dot = Some (still log (expr base first (dotted fs i)))
name_move A at log base first fs i left_paren = Some (still log (expr base first (want (index i ∷ fs))))
name_move A at log base first fs i t = have_move A at log base first fs (A.own i) t

abbrev pub within : (A : Acts) → A.Log → Base A → ℕ → Option (Inner A) → Option (Turn A)
within A log base first (Some inner) = Some (still log (expr base first inner))
within A log base first None = None

abbrev pub expr_move : (A : Acts) → ℕ → A.Log → Base A → ℕ → Inner A → Tok → Option (Turn A)
expr_move A at log base first (want fs) t = within A log base first (want_move A fs t)
expr_move A at log base first (have fs e) t = have_move A at log base first fs e t
expr_move A at log base first (named fs i) t = name_move A at log base first fs i t
expr_move A at log base first (dotted fs i) t = within A log base first (part_made A fs i (field_of t))
expr_move A at log base first (indexed fs i e) t = within A log base first (dot_move A fs i e t)
expr_move A at log base first (index_dotted fs i e) t = within A log base first (item_made A fs i e (field_of t))

-- ---- terms

abbrev pub opening : (A : Acts) → Tok → Option (Part A)
opening A left_brace = Some set_open
opening A (question at) = Some (test_open at)
opening A for_word = Some repeat_open
opening A (many_word at) = Some (many_open at)
opening A (switch_word at) = Some (pick_open at)
opening A t = slot_opening A alone t

-- the interval of a repetition, or none
abbrev pub many_move : (A : Acts) → ℕ → A.Log → Span → Ident → Tok → Option (Turn A)
many_move A at log span i left_bracket = Some (still log (expr (many_length_or_left span i) (at + 1) (want [])))
many_move A at log span i t = Some (passed log (A.many_term span i A.anywhere))

abbrev pub part_move : (A : Acts) → ℕ → A.Log → Part A → Tok → Option (Turn A)
part_move A at log (slot_named u what span) t = slot_move A at log u what span t
part_move A at log (expr base first inner) t = expr_move A at log base first inner t
part_move A at log set_open (name x) = Some (still log (set_named x))
part_move A at log (set_named x) equals = Some (still log (expr (value_of x) (at + 1) (want [])))
part_move A at log (test_open span) left_paren = Some (still log (expr (test_of span) (at + 1) (want [])))
part_move A at log repeat_open (name x) = Some (still log (repeat_named x))
part_move A at log (repeat_named x) equals = Some (still log (expr (first_bound x) (at + 1) (want [])))
part_move A at log (item_due x a b) (name i) = Some (still log (item_named x a b i))
part_move A at log (item_named x a b i) left_bracket = Some (still log (expr (item_left x a b i) (at + 1) (want [])))
part_move A at log (many_open span) (name i) = Some (still log (many_named span i))
part_move A at log (many_named span i) t = many_move A at log span i t
part_move A at log (pick_open span) left_brace = Some (still log (first_case span))
part_move A at log (first_case span) case_word = Some (still log (case_open span A.no_cases))
part_move A at log (next_case span cs) t = case_move A log span cs t
part_move A at log (case_open span cs) left_paren = Some (still log (expr (case_of span cs) (at + 1) (want [])))
part_move A at log (slot_due u) t = stays A log (slot_opening A u t)
part_move A at log (pick_close span cs s) t = close_move A log span cs s t
part_move A at log p t = None

-- ---- rules

abbrev pub to : {A : Acts} → A.Log → Pos A → Option (State A)
to log pos = Some (record { log = log; pos = pos })

abbrev pub begun : (A : Acts) → ℕ → A.Log → Site A → A.Terms → Option (Part A) → Option (State A)
begun A at log site ts (Some part) = to (A.saw_term ts at log) (in_term site ts part)
begun A at log site ts None = None

abbrev pub saw_alt_at : (A : Acts) → Site A → ℕ → A.Log → A.Log
saw_alt_at A (global h) at log = A.saw_alt h.alts at log
saw_alt_at A (local h ts ls n las) at log = A.saw_local_alt las at log

abbrev pub with_alt : (A : Acts) → Head A → A.Terms → A.Locals → Head A
with_alt A h ts ls = record { rules = h.rules; name = h.name; alts = A.with_alt h.alts ts ls }

abbrev pub next_alt : (A : Acts) → Site A → A.Terms → Site A
next_alt A (global h) ts = global (with_alt A h ts A.no_locals)
next_alt A (local h outer ls n las) ts = local h outer ls n (A.with_local_alt las ts)

abbrev pub rule_done : (A : Acts) → Head A → Pos A
rule_done A h = between (A.with_rule h.rules h.name h.alts)

abbrev pub end_rule : (A : Acts) → Site A → A.Terms → Pos A
end_rule A (global h) ts = rule_done A (with_alt A h ts A.no_locals)
end_rule A (local h outer ls n las) ts = after_local h outer (A.with_local ls n (A.with_local_alt las ts))

-- a local rule has no `where`
abbrev pub begin_where : (A : Acts) → A.Log → Site A → A.Terms → Option (State A)
begin_where A log (global h) ts = to log (where_named h ts)
begin_where A log (local h outer ls n las) ts = None

abbrev pub after_term_move : (A : Acts) → ℕ → A.Log → Site A → A.Terms → Tok → Option (State A)
after_term_move A at log site ts (sign (op Div)) = to log (before_term (next_alt A site ts))
after_term_move A at log site ts semicolon = to log (end_rule A site ts)
after_term_move A at log site ts where_word = begin_where A log site ts
after_term_move A at log site ts t = begun A at log site ts (opening A t)

abbrev pub turned : (A : Acts) → ℕ → Site A → A.Terms → Tok → Option (Turn A) → Option (State A)
turned A at site ts t (Some (still log part)) = to log (in_term site ts part)
turned A at site ts t (Some (done log term)) = to log (after_term site (A.with_term ts term))
turned A at site ts t (Some (passed log term)) = after_term_move A at log site (A.with_term ts term) t
turned A at site ts t None = None

abbrev pub move : (A : Acts) → ℕ → A.Log → Pos A → Tok → Option (State A)
move A at log start (name i) = to (A.saw_rule at log) (rule_named A.no_rules i)
move A at log (between rs) (name i) = to (A.saw_rule at log) (rule_named rs i)
move A at log (rule_named rs i) arrow = to log (before_term (global (record { rules = rs; name = i; alts = A.no_alts })))
move A at log (local_named h ts ls i) arrow = to log (before_term (local h ts ls i A.no_local_alts))
move A at log (before_term site) t = begun A at (saw_alt_at A site at log) site A.no_terms (opening A t)
move A at log (in_term site ts part) t = turned A at site ts t (part_move A at log part t)
move A at log (after_term site ts) t = after_term_move A at log site ts t
move A at log (where_named h ts) left_brace = to log (before_local h ts)
move A at log (before_local h ts) (name i) = to (A.saw_rule at log) (local_named h ts A.no_locals i)
move A at log (after_local h ts ls) (name i) = to (A.saw_rule at log) (local_named h ts ls i)
move A at log (after_local h ts ls) right_brace = to log (after_where (with_alt A h ts ls))
move A at log (after_where h) (sign (op Div)) = to log (before_term (global h))
move A at log (after_where h) semicolon = to log (rule_done A h)
move A at log pos t = None

-- ---- a run

-- one token, the `at`-th
abbrev pub step : (A : Acts) → ℕ → State A → Tok → Option (State A)
step A at s t = move A at s.log s.pos t

abbrev pub start_state : (A : Acts) → State A
start_state A = record { log = A.blank; pos = start }

-- what was read of a whole grammar
pub record Read (A : Acts) : Type 0 where
  pub log : A.Log
  pub rules : A.Rules

abbrev pub ending : {A : Acts} → ℕ → A.Log → Pos A → Result (Read A) ℕ
ending at log (between rs) = Ok (record { log = log; rules = rs })
ending at log pos = Err at

abbrev pub onward : {R : Type 0} {S : Type 0} → ℕ → Option S → (S → Result R ℕ) → Result R ℕ
onward at (Some s) rest = rest s
onward at None rest = Err at

-- what the tokens from the `at`-th on give, or the number of the first that no grammar goes on with; their end where a grammar wants more
abbrev pub verdict : (A : Acts) → ℕ → State A → List Tok → Result (Read A) ℕ
verdict A at s [] = ending at s.log s.pos
verdict A at s (t ∷ ts) = onward at (step A at s t) (λ next. verdict A (at + 1) next ts)
