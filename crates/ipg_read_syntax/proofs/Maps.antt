-- The machine commutes with maps of what it makes, and does not look at the places of tokens.
use Rattle.std.proofs.Common.{◌≡◌, ℕ, ◌+◌, List, [], ◌∷◌, Bool, true, false, cond, Option, Some, None}
use Rattle.std.proofs.Common.{option_map, Result, Ok, Err, nat_le, refl, ap, ap₂, ◌∙◌, ℤ}
use Rattle.ipg_num.specs.declared.op.Op2.TheVariants.{Sub, Div}
use Rattle.ipg_ast.specs.declared.grammar.Ident.{Ident}
use Rattle.ipg_ast.specs.declared.grammar.Span.{Span}
use Rattle.ipg_ast.specs.declared.grammar.What.{What}
use Rattle.ipg_ast.specs.declared.grammar.Field.{Field}
use Rattle.ipg_ast.specs.declared.grammar.Field.TheVariants.{Id as Attribute, Start, End}
use Rattle.ipg_read_syntax.specs.Classes.{Infix, op, level, Tok, name, number, text, sign, bang, question, colon, dot, comma, equals, arrow, semicolon}
use Rattle.ipg_read_syntax.specs.Classes.{left_paren, right_paren, left_bracket, right_bracket, left_brace, right_brace, for_word, to_word, do_word}
use Rattle.ipg_read_syntax.specs.Classes.{switch_word, case_word, else_word, where_word, start_word, end_word, eoi_word, many_word}
use Rattle.ipg_read_syntax.specs.Bare.{no_span, bare_ident, bare_field, bare_tok, bare_toks}
use Rattle.ipg_read_syntax.specs.Machine
use Rattle.ipg_read_syntax.specs.Machine.{Acts, Frame, Inner, SlotUse, Base, Part, Head, Site, Pos, State, Closing, Turn, Read, verdict}

-- a map from what some actions make to what others make of the same tokens without their places
pub record Maps (A B : Acts) : Type 0 where
  pub on_expr : A.Expr → B.Expr
  pub on_place : A.Place → B.Place
  pub on_slot : A.Slot → B.Slot
  pub on_cases : A.Cases → B.Cases
  pub on_term : A.Term → B.Term
  pub on_terms : A.Terms → B.Terms
  pub on_local_alts : A.LocalAlts → B.LocalAlts
  pub on_locals : A.Locals → B.Locals
  pub on_alts : A.Alts → B.Alts
  pub on_rules : A.Rules → B.Rules
  pub on_log : A.Log → B.Log
  pub num : (z : ℤ) → on_expr (A.num z) ≡ B.num z
  pub eoi : on_expr A.eoi ≡ B.eoi
  pub own : (i : Ident) → on_expr (A.own i) ≡ B.own (bare_ident i)
  pub part : (i : Ident) (f : Field) → on_expr (A.part i f) ≡ B.part (bare_ident i) (bare_field f)
  pub item : (i : Ident) (e : A.Expr) (f : Field) → on_expr (A.item i e f) ≡ B.item (bare_ident i) (on_expr e) (bare_field f)
  pub group : (e : A.Expr) → on_expr (A.group e) ≡ B.group (on_expr e)
  pub neg : (e : A.Expr) → on_expr (A.neg e) ≡ B.neg (on_expr e)
  pub isnt : (e : A.Expr) → on_expr (A.isnt e) ≡ B.isnt (on_expr e)
  pub two : (i : Infix) (a b : A.Expr) → on_expr (A.two i a b) ≡ B.two i (on_expr a) (on_expr b)
  pub choose : (c : A.Expr) (at : Span) (a b : A.Expr) → on_expr (A.choose c at a b) ≡ B.choose (on_expr c) no_span (on_expr a) (on_expr b)
  pub anywhere : on_place A.anywhere ≡ B.anywhere
  pub long : (e : A.Expr) → on_place (A.long e) ≡ B.long (on_expr e)
  pub ends : (l r : A.Expr) → on_place (A.ends l r) ≡ B.ends (on_expr l) (on_expr r)
  pub slot : (w : What) (at : Span) (p : A.Place) → on_slot (A.slot w at p) ≡ B.slot w no_span (on_place p)
  pub no_cases : on_cases A.no_cases ≡ B.no_cases
  pub with_case : (cs : A.Cases) (c : A.Expr) (s : A.Slot) → on_cases (A.with_case cs c s) ≡ B.with_case (on_cases cs) (on_expr c) (on_slot s)
  pub slot_term : (s : A.Slot) → on_term (A.slot_term s) ≡ B.slot_term (on_slot s)
  pub set_term : (x : Ident) (e : A.Expr) → on_term (A.set_term x e) ≡ B.set_term (bare_ident x) (on_expr e)
  pub test_term : (at : Span) (e : A.Expr) → on_term (A.test_term at e) ≡ B.test_term no_span (on_expr e)
  pub repeat_term : (x : Ident) (a b : A.Expr) (i : Ident) (l r : A.Expr)
      → on_term (A.repeat_term x a b i l r) ≡ B.repeat_term (bare_ident x) (on_expr a) (on_expr b) (bare_ident i) (on_expr l) (on_expr r)
  pub many_term : (at : Span) (i : Ident) (p : A.Place) → on_term (A.many_term at i p) ≡ B.many_term no_span (bare_ident i) (on_place p)
  pub pick_term : (at : Span) (cs : A.Cases) (s : A.Slot) → on_term (A.pick_term at cs s) ≡ B.pick_term no_span (on_cases cs) (on_slot s)
  pub no_terms : on_terms A.no_terms ≡ B.no_terms
  pub with_term : (ts : A.Terms) (t : A.Term) → on_terms (A.with_term ts t) ≡ B.with_term (on_terms ts) (on_term t)
  pub no_local_alts : on_local_alts A.no_local_alts ≡ B.no_local_alts
  pub with_local_alt : (las : A.LocalAlts) (ts : A.Terms) → on_local_alts (A.with_local_alt las ts) ≡ B.with_local_alt (on_local_alts las) (on_terms ts)
  pub no_locals : on_locals A.no_locals ≡ B.no_locals
  pub with_local : (ls : A.Locals) (n : Ident) (las : A.LocalAlts)
      → on_locals (A.with_local ls n las) ≡ B.with_local (on_locals ls) (bare_ident n) (on_local_alts las)
  pub no_alts : on_alts A.no_alts ≡ B.no_alts
  pub with_alt : (alts : A.Alts) (ts : A.Terms) (ls : A.Locals) → on_alts (A.with_alt alts ts ls) ≡ B.with_alt (on_alts alts) (on_terms ts) (on_locals ls)
  pub no_rules : on_rules A.no_rules ≡ B.no_rules
  pub with_rule : (rs : A.Rules) (n : Ident) (alts : A.Alts) → on_rules (A.with_rule rs n alts) ≡ B.with_rule (on_rules rs) (bare_ident n) (on_alts alts)
  pub blank : on_log A.blank ≡ B.blank
  pub saw_rule : (at : ℕ) (log : A.Log) → on_log (A.saw_rule at log) ≡ B.saw_rule at (on_log log)
  pub saw_local_alt : (las : A.LocalAlts) (at : ℕ) (log : A.Log) → on_log (A.saw_local_alt las at log) ≡ B.saw_local_alt (on_local_alts las) at (on_log log)
  pub saw_alt : (alts : A.Alts) (at : ℕ) (log : A.Log) → on_log (A.saw_alt alts at log) ≡ B.saw_alt (on_alts alts) at (on_log log)
  pub saw_term : (ts : A.Terms) (at : ℕ) (log : A.Log) → on_log (A.saw_term ts at log) ≡ B.saw_term (on_terms ts) at (on_log log)
  pub saw_expr : (e : A.Expr) (at : ℕ) (log : A.Log) → on_log (A.saw_expr e at log) ≡ B.saw_expr (on_expr e) at (on_log log)

module _ (A B : Acts) (m : Maps A B) where
  abbrev pub on_frame : Frame A → Frame B
  on_frame Machine.neg = Machine.neg
  on_frame Machine.isnt = Machine.isnt
  on_frame (Machine.left i a) = Machine.left i (m.on_expr a)
  on_frame Machine.group = Machine.group
  on_frame (Machine.index i) = Machine.index (bare_ident i)
  on_frame (Machine.then_of c at) = Machine.then_of (m.on_expr c) no_span
  on_frame (Machine.else_of c at a) = Machine.else_of (m.on_expr c) no_span (m.on_expr a)

  abbrev pub on_frames : List (Frame A) → List (Frame B)
  on_frames [] = []
  on_frames (f ∷ fs) = on_frame f ∷ on_frames fs

  abbrev pub on_inner : Inner A → Inner B
  on_inner (Machine.want fs) = Machine.want (on_frames fs)
  on_inner (Machine.have fs e) = Machine.have (on_frames fs) (m.on_expr e)
  on_inner (Machine.named fs i) = Machine.named (on_frames fs) (bare_ident i)
  on_inner (Machine.dotted fs i) = Machine.dotted (on_frames fs) (bare_ident i)
  on_inner (Machine.indexed fs i e) = Machine.indexed (on_frames fs) (bare_ident i) (m.on_expr e)
  on_inner (Machine.index_dotted fs i e) = Machine.index_dotted (on_frames fs) (bare_ident i) (m.on_expr e)

  abbrev pub on_use : SlotUse A → SlotUse B
  on_use Machine.alone = Machine.alone
  on_use (Machine.chosen at cs c) = Machine.chosen no_span (m.on_cases cs) (m.on_expr c)
  on_use (Machine.other at cs) = Machine.other no_span (m.on_cases cs)

  abbrev pub on_base : Base A → Base B
  on_base (Machine.length_or_left u w at) = Machine.length_or_left (on_use u) w no_span
  on_base (Machine.right_of u w at l) = Machine.right_of (on_use u) w no_span (m.on_expr l)
  on_base (Machine.value_of x) = Machine.value_of (bare_ident x)
  on_base (Machine.test_of at) = Machine.test_of no_span
  on_base (Machine.first_bound x) = Machine.first_bound (bare_ident x)
  on_base (Machine.last_bound x a) = Machine.last_bound (bare_ident x) (m.on_expr a)
  on_base (Machine.item_left x a b i) = Machine.item_left (bare_ident x) (m.on_expr a) (m.on_expr b) (bare_ident i)
  on_base (Machine.item_right x a b i l) = Machine.item_right (bare_ident x) (m.on_expr a) (m.on_expr b) (bare_ident i) (m.on_expr l)
  on_base (Machine.many_length_or_left at i) = Machine.many_length_or_left no_span (bare_ident i)
  on_base (Machine.many_right at i l) = Machine.many_right no_span (bare_ident i) (m.on_expr l)
  on_base (Machine.case_of at cs) = Machine.case_of no_span (m.on_cases cs)

  abbrev pub on_part : Part A → Part B
  on_part (Machine.slot_named u w at) = Machine.slot_named (on_use u) w no_span
  on_part (Machine.expr base first inner) = Machine.expr (on_base base) first (on_inner inner)
  on_part Machine.set_open = Machine.set_open
  on_part (Machine.set_named x) = Machine.set_named (bare_ident x)
  on_part (Machine.test_open at) = Machine.test_open no_span
  on_part Machine.repeat_open = Machine.repeat_open
  on_part (Machine.repeat_named x) = Machine.repeat_named (bare_ident x)
  on_part (Machine.item_due x a b) = Machine.item_due (bare_ident x) (m.on_expr a) (m.on_expr b)
  on_part (Machine.item_named x a b i) = Machine.item_named (bare_ident x) (m.on_expr a) (m.on_expr b) (bare_ident i)
  on_part (Machine.many_open at) = Machine.many_open no_span
  on_part (Machine.many_named at i) = Machine.many_named no_span (bare_ident i)
  on_part (Machine.pick_open at) = Machine.pick_open no_span
  on_part (Machine.first_case at) = Machine.first_case no_span
  on_part (Machine.next_case at cs) = Machine.next_case no_span (m.on_cases cs)
  on_part (Machine.case_open at cs) = Machine.case_open no_span (m.on_cases cs)
  on_part (Machine.slot_due u) = Machine.slot_due (on_use u)
  on_part (Machine.pick_close at cs s) = Machine.pick_close no_span (m.on_cases cs) (m.on_slot s)

  abbrev pub on_head : Head A → Head B
  on_head h = record { rules = m.on_rules h.rules; name = bare_ident h.name; alts = m.on_alts h.alts }

  abbrev pub on_site : Site A → Site B
  on_site (Machine.global h) = Machine.global (on_head h)
  on_site (Machine.local h outer ls n las) = Machine.local (on_head h) (m.on_terms outer) (m.on_locals ls) (bare_ident n) (m.on_local_alts las)

  abbrev pub on_pos : Pos A → Pos B
  on_pos Machine.start = Machine.start
  on_pos (Machine.between rs) = Machine.between (m.on_rules rs)
  on_pos (Machine.rule_named rs i) = Machine.rule_named (m.on_rules rs) (bare_ident i)
  on_pos (Machine.local_named h ts ls i) = Machine.local_named (on_head h) (m.on_terms ts) (m.on_locals ls) (bare_ident i)
  on_pos (Machine.before_term site) = Machine.before_term (on_site site)
  on_pos (Machine.in_term site ts p) = Machine.in_term (on_site site) (m.on_terms ts) (on_part p)
  on_pos (Machine.after_term site ts) = Machine.after_term (on_site site) (m.on_terms ts)
  on_pos (Machine.where_named h ts) = Machine.where_named (on_head h) (m.on_terms ts)
  on_pos (Machine.before_local h ts) = Machine.before_local (on_head h) (m.on_terms ts)
  on_pos (Machine.after_local h ts ls) = Machine.after_local (on_head h) (m.on_terms ts) (m.on_locals ls)
  on_pos (Machine.after_where h) = Machine.after_where (on_head h)

  abbrev pub on_state : State A → State B
  on_state s = record { log = m.on_log s.log; pos = on_pos s.pos }

  abbrev on_turn : Turn A → Turn B
  on_turn (Machine.still log p) = Machine.still (m.on_log log) (on_part p)
  on_turn (Machine.done log t) = Machine.done (m.on_log log) (m.on_term t)
  on_turn (Machine.passed log t) = Machine.passed (m.on_log log) (m.on_term t)

  abbrev on_closing : Closing A → Closing B
  on_closing c = record { frames = on_frames c.frames; operand = m.on_expr c.operand }

  -- ---- expressions

  closing_chosen : (b : Bool) (x y : Closing A) → on_closing (cond b x y) ≡ cond b (on_closing x) (on_closing y)
  closing_chosen true x y = refl
  closing_chosen false x y = refl

  close_map : (p : ℕ) (fs : List (Frame A)) (e : A.Expr) → on_closing (Machine.close A p fs e) ≡ Machine.close B p (on_frames fs) (m.on_expr e)
  close_map p [] e = refl
  close_map p (Machine.neg ∷ fs) e = close_map p fs (A.neg e) ∙ ap (Machine.close B p (on_frames fs)) (m.neg e)
  close_map p (Machine.isnt ∷ fs) e = close_map p fs (A.isnt e) ∙ ap (Machine.close B p (on_frames fs)) (m.isnt e)
  close_map p (Machine.left i a ∷ fs) e =
      closing_chosen (nat_le p (level i)) (Machine.close A p fs (A.two i a e)) (record { frames = Machine.left i a ∷ fs; operand = e })
      ∙ ap (λ c. cond (nat_le p (level i)) c (on_closing (record { frames = Machine.left i a ∷ fs; operand = e })))
      (close_map p fs (A.two i a e) ∙ ap (Machine.close B p (on_frames fs)) (m.two i a e))
  close_map p (Machine.group ∷ fs) e = refl
  close_map p (Machine.index i ∷ fs) e = refl
  close_map p (Machine.then_of c at ∷ fs) e = refl
  close_map p (Machine.else_of c at a ∷ fs) e =
      closing_chosen (nat_le p 0) (Machine.close A p fs (A.choose c at a e)) (record { frames = Machine.else_of c at a ∷ fs; operand = e })
      ∙ ap (λ x. cond (nat_le p 0) x (on_closing (record { frames = Machine.else_of c at a ∷ fs; operand = e })))
      (close_map p fs (A.choose c at a e) ∙ ap (Machine.close B p (on_frames fs)) (m.choose c at a e))

  want_map : (fs : List (Frame A)) (t : Tok) → option_map on_inner (Machine.want_move A fs t) ≡ Machine.want_move B (on_frames fs) (bare_tok t)
  want_map fs (number z) = ap (λ e. Some (Machine.have (on_frames fs) e)) (m.num z)
  want_map fs eoi_word = ap (λ e. Some (Machine.have (on_frames fs) e)) m.eoi
  want_map fs (name i) = refl
  want_map fs left_paren = refl
  want_map fs (sign (op Sub)) = refl
  want_map fs bang = refl
  want_map fs t = refl

  within_map : (log : A.Log) (base : Base A) (first : ℕ) (o : Option (Inner A))
      → option_map on_turn (Machine.within A log base first o) ≡ Machine.within B (m.on_log log) (on_base base) first (option_map on_inner o)
  within_map log base first (Some inner) = refl
  within_map log base first None = refl

  part_map : (fs : List (Frame A)) (i : Ident) (t : Tok)
      → option_map on_inner (Machine.part_made A fs i (Machine.field_of t)) ≡ Machine.part_made B (on_frames fs) (bare_ident i) (Machine.field_of (bare_tok t))
  part_map fs i (name n) = ap (λ e. Some (Machine.have (on_frames fs) e)) (m.part i (Attribute n))
  part_map fs i start_word = ap (λ e. Some (Machine.have (on_frames fs) e)) (m.part i Start)
  part_map fs i end_word = ap (λ e. Some (Machine.have (on_frames fs) e)) (m.part i End)
  part_map fs i t = refl

  item_map : (fs : List (Frame A)) (i : Ident) (e : A.Expr) (t : Tok)
      → option_map on_inner (Machine.item_made A fs i e (Machine.field_of t))
      ≡ Machine.item_made B (on_frames fs) (bare_ident i) (m.on_expr e) (Machine.field_of (bare_tok t))
  item_map fs i e (name n) = ap (λ x. Some (Machine.have (on_frames fs) x)) (m.item i e (Attribute n))
  item_map fs i e start_word = ap (λ x. Some (Machine.have (on_frames fs) x)) (m.item i e Start)
  item_map fs i e end_word = ap (λ x. Some (Machine.have (on_frames fs) x)) (m.item i e End)
  item_map fs i e t = refl

  dot_map : (fs : List (Frame A)) (i : Ident) (e : A.Expr) (t : Tok)
      → option_map on_inner (Machine.dot_move A fs i e t) ≡ Machine.dot_move B (on_frames fs) (bare_ident i) (m.on_expr e) (bare_tok t)
  dot_map fs i e dot = refl
  dot_map fs i e t = refl

  -- ---- slots and switches

  slot_done_map : (log : A.Log) (u : SlotUse A) (s : A.Slot) → on_turn (Machine.slot_done A log u s)
      ≡ Machine.slot_done B (m.on_log log) (on_use u) (m.on_slot s)
  slot_done_map log Machine.alone s = ap (Machine.done (m.on_log log)) (m.slot_term s)
  slot_done_map log (Machine.chosen at cs c) s = ap (λ x. Machine.still (m.on_log log) (Machine.next_case no_span x)) (m.with_case cs c s)
  slot_done_map log (Machine.other at cs) s = refl

  case_map : (log : A.Log) (at : Span) (cs : A.Cases) (t : Tok)
      → option_map on_turn (Machine.case_move A log at cs t) ≡ Machine.case_move B (m.on_log log) no_span (m.on_cases cs) (bare_tok t)
  case_map log at cs case_word = refl
  case_map log at cs else_word = refl
  case_map log at cs t = refl

  pick_map : (log : A.Log) (at : Span) (cs : A.Cases) (s : A.Slot) (t : Tok)
      → option_map on_turn (Machine.close_move A log at cs s t) ≡ Machine.close_move B (m.on_log log) no_span (m.on_cases cs) (m.on_slot s) (bare_tok t)
  pick_map log at cs s right_brace = ap (λ x. Some (Machine.done (m.on_log log) x)) (m.pick_term at cs s)
  pick_map log at cs s t = refl

  passed_map : (log : A.Log) (u : SlotUse A) (s : A.Slot) (t : Tok)
      → option_map on_turn (Machine.slot_passed A log u s t) ≡ Machine.slot_passed B (m.on_log log) (on_use u) (m.on_slot s) (bare_tok t)
  passed_map log Machine.alone s t = ap (λ x. Some (Machine.passed (m.on_log log) x)) (m.slot_term s)
  passed_map log (Machine.chosen at cs c) s t =
      case_map log at (A.with_case cs c s) t ∙ ap (λ x. Machine.case_move B (m.on_log log) no_span x (bare_tok t)) (m.with_case cs c s)
  passed_map log (Machine.other at cs) s t = pick_map log at cs s t

  slot_made : (w : What) (span : Span) (p : A.Place) (q : B.Place) → m.on_place p ≡ q → m.on_slot (A.slot w span p) ≡ B.slot w no_span q
  slot_made w span p q same = m.slot w span p ∙ ap (B.slot w no_span) same

  slot_map : (at : ℕ) (log : A.Log) (u : SlotUse A) (w : What) (span : Span) (t : Tok)
      → option_map on_turn (Machine.slot_move A at log u w span t) ≡ Machine.slot_move B at (m.on_log log) (on_use u) w no_span (bare_tok t)
  slot_map at log u w span left_bracket = refl
  slot_map at log u w span t =
      passed_map log u (A.slot w span A.anywhere) t
      ∙ ap (λ s. Machine.slot_passed B (m.on_log log) (on_use u) s (bare_tok t)) (slot_made w span A.anywhere B.anywhere m.anywhere)

  many_made : (at : Span) (i : Ident) (p : A.Place) (q : B.Place) → m.on_place p ≡ q → m.on_term (A.many_term at i p) ≡ B.many_term no_span (bare_ident i) q
  many_made at i p q same = m.many_term at i p ∙ ap (B.many_term no_span (bare_ident i)) same

  -- ---- whole expressions

  ended_map : (at : ℕ) (log : A.Log) (base : Base A) (e : A.Expr) (t : Tok)
      → option_map on_turn (Machine.ended A at log base e t) ≡ Machine.ended B at (m.on_log log) (on_base base) (m.on_expr e) (bare_tok t)
  ended_map at log (Machine.length_or_left u w span) e right_bracket =
      ap Some (slot_done_map log u (A.slot w span (A.long e)) ∙ ap (Machine.slot_done B (m.on_log log) (on_use u))
      (slot_made w span (A.long e) (B.long (m.on_expr e)) (m.long e)))
  ended_map at log (Machine.length_or_left u w span) e comma = refl
  ended_map at log (Machine.length_or_left u w span) e t = refl
  ended_map at log (Machine.right_of u w span l) e right_bracket =
      ap Some (slot_done_map log u (A.slot w span (A.ends l e))
      ∙ ap (Machine.slot_done B (m.on_log log) (on_use u)) (slot_made w span (A.ends l e) (B.ends (m.on_expr l) (m.on_expr e)) (m.ends l e)))
  ended_map at log (Machine.right_of u w span l) e t = refl
  ended_map at log (Machine.value_of x) e right_brace = ap (λ y. Some (Machine.done (m.on_log log) y)) (m.set_term x e)
  ended_map at log (Machine.value_of x) e t = refl
  ended_map at log (Machine.test_of span) e right_paren = ap (λ y. Some (Machine.done (m.on_log log) y)) (m.test_term span e)
  ended_map at log (Machine.test_of span) e t = refl
  ended_map at log (Machine.first_bound x) e to_word = refl
  ended_map at log (Machine.first_bound x) e t = refl
  ended_map at log (Machine.last_bound x a) e do_word = refl
  ended_map at log (Machine.last_bound x a) e t = refl
  ended_map at log (Machine.item_left x a b i) e comma = refl
  ended_map at log (Machine.item_left x a b i) e t = refl
  ended_map at log (Machine.item_right x a b i l) e right_bracket = ap (λ y. Some (Machine.done (m.on_log log) y)) (m.repeat_term x a b i l e)
  ended_map at log (Machine.item_right x a b i l) e t = refl
  ended_map at log (Machine.many_length_or_left span i) e right_bracket =
      ap (λ y. Some (Machine.done (m.on_log log) y)) (many_made span i (A.long e) (B.long (m.on_expr e)) (m.long e))
  ended_map at log (Machine.many_length_or_left span i) e comma = refl
  ended_map at log (Machine.many_length_or_left span i) e t = refl
  ended_map at log (Machine.many_right span i l) e right_bracket =
      ap (λ y. Some (Machine.done (m.on_log log) y)) (many_made span i (A.ends l e) (B.ends (m.on_expr l) (m.on_expr e)) (m.ends l e))
  ended_map at log (Machine.many_right span i l) e t = refl
  ended_map at log (Machine.case_of span cs) e right_paren = refl
  ended_map at log (Machine.case_of span cs) e t = refl

  finish_map : (at : ℕ) (log : A.Log) (base : Base A) (first : ℕ) (fs : List (Frame A)) (e : A.Expr) (t : Tok)
      → option_map on_turn (Machine.finish A at log base first fs e t)
      ≡ Machine.finish B at (m.on_log log) (on_base base) first (on_frames fs) (m.on_expr e) (bare_tok t)
  finish_map at log base first [] e t =
      ended_map at (A.saw_expr e first log) base e t ∙ ap (λ l. Machine.ended B at l (on_base base) (m.on_expr e) (bare_tok t)) (m.saw_expr e first log)
  finish_map at log base first (Machine.group ∷ fs) e right_paren =
      ap (λ x. Some (Machine.still (m.on_log log) (Machine.expr (on_base base) first (Machine.have (on_frames fs) x)))) (m.group e)
  finish_map at log base first (Machine.group ∷ fs) e t = refl
  finish_map at log base first (Machine.index i ∷ fs) e right_paren = refl
  finish_map at log base first (Machine.index i ∷ fs) e t = refl
  finish_map at log base first (Machine.then_of c span ∷ fs) e colon = refl
  finish_map at log base first (Machine.then_of c span ∷ fs) e t = refl
  finish_map at log base first (Machine.neg ∷ fs) e t = refl
  finish_map at log base first (Machine.isnt ∷ fs) e t = refl
  finish_map at log base first (Machine.left i a ∷ fs) e t = refl
  finish_map at log base first (Machine.else_of c span a ∷ fs) e t = refl

  finished_map : (at : ℕ) (log : A.Log) (base : Base A) (first : ℕ) (fs : List (Frame A)) (e : A.Expr) (t : Tok)
      → option_map on_turn (Machine.finished A at log base first (Machine.close A 0 fs e) t)
      ≡ Machine.finished B at (m.on_log log) (on_base base) first (Machine.close B 0 (on_frames fs) (m.on_expr e)) (bare_tok t)
  finished_map at log base first fs e t =
      let c : Closing A = Machine.close A 0 fs e in
      finish_map at log base first c.frames c.operand t
      ∙ ap (λ d. Machine.finished B at (m.on_log log) (on_base base) first d (bare_tok t)) (close_map 0 fs e)

  have_map : (at : ℕ) (log : A.Log) (base : Base A) (first : ℕ) (fs : List (Frame A)) (e : A.Expr) (t : Tok)
      → option_map on_turn (Machine.have_move A at log base first fs e t)
      ≡ Machine.have_move B at (m.on_log log) (on_base base) first (on_frames fs) (m.on_expr e) (bare_tok t)
  have_map at log base first fs e (sign i) = ap (λ c. Some (Machine.still (m.on_log log) (Machine.expr (on_base base) first (Machine.with_left i c))))
      (close_map (level i) fs e)
  have_map at log base first fs e (question span) =
      ap (λ c. Some (Machine.still (m.on_log log) (Machine.expr (on_base base) first (Machine.with_test no_span c)))) (close_map 1 fs e)
  have_map at log base first fs e t = finished_map at log base first fs e t

  name_map : (at : ℕ) (log : A.Log) (base : Base A) (first : ℕ) (fs : List (Frame A)) (i : Ident) (t : Tok)
      → option_map on_turn (Machine.name_move A at log base first fs i t)
      ≡ Machine.name_move B at (m.on_log log) (on_base base) first (on_frames fs) (bare_ident i) (bare_tok t)
  name_map at log base first fs i dot = refl
  name_map at log base first fs i left_paren = refl
  name_map at log base first fs i t =
      have_map at log base first fs (A.own i) t ∙ ap (λ x. Machine.have_move B at (m.on_log log) (on_base base) first (on_frames fs) x (bare_tok t)) (m.own i)

  expr_map : (at : ℕ) (log : A.Log) (base : Base A) (first : ℕ) (inner : Inner A) (t : Tok)
      → option_map on_turn (Machine.expr_move A at log base first inner t)
      ≡ Machine.expr_move B at (m.on_log log) (on_base base) first (on_inner inner) (bare_tok t)
  expr_map at log base first (Machine.want fs) t =
      within_map log base first (Machine.want_move A fs t) ∙ ap (Machine.within B (m.on_log log) (on_base base) first) (want_map fs t)
  expr_map at log base first (Machine.have fs e) t = have_map at log base first fs e t
  expr_map at log base first (Machine.named fs i) t = name_map at log base first fs i t
  expr_map at log base first (Machine.dotted fs i) t =
      within_map log base first (Machine.part_made A fs i (Machine.field_of t)) ∙ ap (Machine.within B (m.on_log log) (on_base base) first) (part_map fs i t)
  expr_map at log base first (Machine.indexed fs i e) t =
      within_map log base first (Machine.dot_move A fs i e t) ∙ ap (Machine.within B (m.on_log log) (on_base base) first) (dot_map fs i e t)
  expr_map at log base first (Machine.index_dotted fs i e) t =
      within_map log base first (Machine.item_made A fs i e (Machine.field_of t))
      ∙ ap (Machine.within B (m.on_log log) (on_base base) first) (item_map fs i e t)

  -- ---- terms

  slot_opening_map : (u : SlotUse A) (t : Tok) → option_map on_part (Machine.slot_opening A u t) ≡ Machine.slot_opening B (on_use u) (bare_tok t)
  slot_opening_map u (text bs at) = refl
  slot_opening_map u (name i) = refl
  slot_opening_map u t = refl

  opening_map : (t : Tok) → option_map on_part (Machine.opening A t) ≡ Machine.opening B (bare_tok t)
  opening_map left_brace = refl
  opening_map (question at) = refl
  opening_map for_word = refl
  opening_map (many_word at) = refl
  opening_map (switch_word at) = refl
  opening_map t = slot_opening_map Machine.alone t

  stays_map : (log : A.Log) (o : Option (Part A)) → option_map on_turn (Machine.stays A log o) ≡ Machine.stays B (m.on_log log) (option_map on_part o)
  stays_map log (Some p) = refl
  stays_map log None = refl

  many_map : (at : ℕ) (log : A.Log) (span : Span) (i : Ident) (t : Tok)
      → option_map on_turn (Machine.many_move A at log span i t) ≡ Machine.many_move B at (m.on_log log) no_span (bare_ident i) (bare_tok t)
  many_map at log span i left_bracket = refl
  many_map at log span i t = ap (λ y. Some (Machine.passed (m.on_log log) y)) (many_made span i A.anywhere B.anywhere m.anywhere)

  part_move_map : (at : ℕ) (log : A.Log) (p : Part A) (t : Tok)
      → option_map on_turn (Machine.part_move A at log p t) ≡ Machine.part_move B at (m.on_log log) (on_part p) (bare_tok t)
  part_move_map at log (Machine.slot_named u w span) t = slot_map at log u w span t
  part_move_map at log (Machine.expr base first inner) t = expr_map at log base first inner t
  part_move_map at log Machine.set_open (name x) = refl
  part_move_map at log Machine.set_open t = refl
  part_move_map at log (Machine.set_named x) equals = refl
  part_move_map at log (Machine.set_named x) t = refl
  part_move_map at log (Machine.test_open span) left_paren = refl
  part_move_map at log (Machine.test_open span) t = refl
  part_move_map at log Machine.repeat_open (name x) = refl
  part_move_map at log Machine.repeat_open t = refl
  part_move_map at log (Machine.repeat_named x) equals = refl
  part_move_map at log (Machine.repeat_named x) t = refl
  part_move_map at log (Machine.item_due x a b) (name i) = refl
  part_move_map at log (Machine.item_due x a b) t = refl
  part_move_map at log (Machine.item_named x a b i) left_bracket = refl
  part_move_map at log (Machine.item_named x a b i) t = refl
  part_move_map at log (Machine.many_open span) (name i) = refl
  part_move_map at log (Machine.many_open span) t = refl
  part_move_map at log (Machine.many_named span i) t = many_map at log span i t
  part_move_map at log (Machine.pick_open span) left_brace = refl
  part_move_map at log (Machine.pick_open span) t = refl
  part_move_map at log (Machine.first_case span) case_word = ap (λ cs. Some (Machine.still (m.on_log log) (Machine.case_open no_span cs))) m.no_cases
  part_move_map at log (Machine.first_case span) t = refl
  part_move_map at log (Machine.next_case span cs) t = case_map log span cs t
  part_move_map at log (Machine.case_open span cs) left_paren = refl
  part_move_map at log (Machine.case_open span cs) t = refl
  part_move_map at log (Machine.slot_due u) t = stays_map log (Machine.slot_opening A u t) ∙ ap (Machine.stays B (m.on_log log)) (slot_opening_map u t)
  part_move_map at log (Machine.pick_close span cs s) t = pick_map log span cs s t

  -- ---- rules

  begun_map : (at : ℕ) (log : A.Log) (site : Site A) (ts : A.Terms) (o : Option (Part A))
      → option_map on_state (Machine.begun A at log site ts o) ≡ Machine.begun B at (m.on_log log) (on_site site) (m.on_terms ts) (option_map on_part o)
  begun_map at log site ts (Some p) = ap (λ l. Some (record { log = l; pos = Machine.in_term (on_site site) (m.on_terms ts) (on_part p) }))
      (m.saw_term ts at log)
  begun_map at log site ts None = refl

  saw_alt_map : (site : Site A) (at : ℕ) (log : A.Log) → m.on_log (Machine.saw_alt_at A site at log) ≡ Machine.saw_alt_at B (on_site site) at (m.on_log log)
  saw_alt_map (Machine.global h) at log = m.saw_alt h.alts at log
  saw_alt_map (Machine.local h outer ls n las) at log = m.saw_local_alt las at log

  alts_map : (alts : A.Alts) (ts : A.Terms) → m.on_alts (A.with_alt alts ts A.no_locals) ≡ B.with_alt (m.on_alts alts) (m.on_terms ts) B.no_locals
  alts_map alts ts = m.with_alt alts ts A.no_locals ∙ ap (B.with_alt (m.on_alts alts) (m.on_terms ts)) m.no_locals

  next_alt_map : (site : Site A) (ts : A.Terms) → on_site (Machine.next_alt A site ts) ≡ Machine.next_alt B (on_site site) (m.on_terms ts)
  next_alt_map (Machine.global h) ts = ap (λ alts. Machine.global (record { rules = m.on_rules h.rules; name = bare_ident h.name; alts = alts }))
      (alts_map h.alts ts)
  next_alt_map (Machine.local h outer ls n las) ts =
      ap (Machine.local (on_head h) (m.on_terms outer) (m.on_locals ls) (bare_ident n)) (m.with_local_alt las ts)

  end_rule_map : (site : Site A) (ts : A.Terms) → on_pos (Machine.end_rule A site ts) ≡ Machine.end_rule B (on_site site) (m.on_terms ts)
  end_rule_map (Machine.global h) ts = ap Machine.between
      (m.with_rule h.rules h.name (A.with_alt h.alts ts A.no_locals) ∙ ap (B.with_rule (m.on_rules h.rules) (bare_ident h.name)) (alts_map h.alts ts))
  end_rule_map (Machine.local h outer ls n las) ts = ap (Machine.after_local (on_head h) (m.on_terms outer))
      (m.with_local ls n (A.with_local_alt las ts) ∙ ap (B.with_local (m.on_locals ls) (bare_ident n)) (m.with_local_alt las ts))

  where_map : (log : A.Log) (site : Site A) (ts : A.Terms)
      → option_map on_state (Machine.begin_where A log site ts) ≡ Machine.begin_where B (m.on_log log) (on_site site) (m.on_terms ts)
  where_map log (Machine.global h) ts = refl
  where_map log (Machine.local h outer ls n las) ts = refl

  after_term_map : (at : ℕ) (log : A.Log) (site : Site A) (ts : A.Terms) (t : Tok)
      → option_map on_state (Machine.after_term_move A at log site ts t)
      ≡ Machine.after_term_move B at (m.on_log log) (on_site site) (m.on_terms ts) (bare_tok t)
  after_term_map at log site ts (sign (op Div)) = ap (λ s. Some (record { log = m.on_log log; pos = Machine.before_term s })) (next_alt_map site ts)
  after_term_map at log site ts semicolon = ap (λ pos. Some (record { log = m.on_log log; pos = pos })) (end_rule_map site ts)
  after_term_map at log site ts where_word = where_map log site ts
  after_term_map at log site ts t =
      begun_map at log site ts (Machine.opening A t) ∙ ap (Machine.begun B at (m.on_log log) (on_site site) (m.on_terms ts)) (opening_map t)

  turned_map : (at : ℕ) (site : Site A) (ts : A.Terms) (t : Tok) (o : Option (Turn A))
      → option_map on_state (Machine.turned A at site ts t o) ≡ Machine.turned B at (on_site site) (m.on_terms ts) (bare_tok t) (option_map on_turn o)
  turned_map at site ts t (Some (Machine.still log p)) = refl
  turned_map at site ts t (Some (Machine.done log x)) = ap (λ y. Some (record { log = m.on_log log; pos = Machine.after_term (on_site site) y }))
      (m.with_term ts x)
  turned_map at site ts t (Some (Machine.passed log x)) =
      after_term_map at log site (A.with_term ts x) t ∙ ap (λ y. Machine.after_term_move B at (m.on_log log) (on_site site) y (bare_tok t)) (m.with_term ts x)
  turned_map at site ts t None = refl

  named_map : (at : ℕ) (log : A.Log) (pos : Pos A) → Some (on_state (record { log = A.saw_rule at log; pos = pos }))
      ≡ Some (record { log = B.saw_rule at (m.on_log log); pos = on_pos pos })
  named_map at log pos = ap (λ l. Some (record { log = l; pos = on_pos pos })) (m.saw_rule at log)

  move_map : (at : ℕ) (log : A.Log) (pos : Pos A) (t : Tok)
      → option_map on_state (Machine.move A at log pos t) ≡ Machine.move B at (m.on_log log) (on_pos pos) (bare_tok t)
  move_map at log Machine.start (name i) =
      named_map at log (Machine.rule_named A.no_rules i)
      ∙ ap (λ rs. Some (record { log = B.saw_rule at (m.on_log log); pos = Machine.rule_named rs (bare_ident i) })) m.no_rules
  move_map at log Machine.start t = refl
  move_map at log (Machine.between rs) (name i) = named_map at log (Machine.rule_named rs i)
  move_map at log (Machine.between rs) t = refl
  move_map at log (Machine.rule_named rs i) arrow =
      ap (λ alts. Some (record
      { log = m.on_log log; pos = Machine.before_term (Machine.global (record { rules = m.on_rules rs; name = bare_ident i; alts = alts })) })) m.no_alts
  move_map at log (Machine.rule_named rs i) t = refl
  move_map at log (Machine.local_named h ts ls i) arrow =
      ap (λ las. Some (record
      { log = m.on_log log; pos = Machine.before_term (Machine.local (on_head h) (m.on_terms ts) (m.on_locals ls) (bare_ident i) las) })) m.no_local_alts
  move_map at log (Machine.local_named h ts ls i) t = refl
  move_map at log (Machine.before_term site) t =
      begun_map at (Machine.saw_alt_at A site at log) site A.no_terms (Machine.opening A t)
      ∙ ap₂ (λ l ts. Machine.begun B at l (on_site site) ts (option_map on_part (Machine.opening A t))) (saw_alt_map site at log) m.no_terms
      ∙ ap (Machine.begun B at (Machine.saw_alt_at B (on_site site) at (m.on_log log)) (on_site site) B.no_terms) (opening_map t)
  move_map at log (Machine.in_term site ts p) t =
      turned_map at site ts t (Machine.part_move A at log p t) ∙ ap (Machine.turned B at (on_site site) (m.on_terms ts) (bare_tok t)) (part_move_map at log p t)
  move_map at log (Machine.after_term site ts) t = after_term_map at log site ts t
  move_map at log (Machine.where_named h ts) left_brace = refl
  move_map at log (Machine.where_named h ts) t = refl
  move_map at log (Machine.before_local h ts) (name i) =
      named_map at log (Machine.local_named h ts A.no_locals i)
      ∙ ap (λ ls. Some (record { log = B.saw_rule at (m.on_log log); pos = Machine.local_named (on_head h) (m.on_terms ts) ls (bare_ident i) })) m.no_locals
  move_map at log (Machine.before_local h ts) t = refl
  move_map at log (Machine.after_local h ts ls) (name i) = named_map at log (Machine.local_named h ts ls i)
  move_map at log (Machine.after_local h ts ls) right_brace =
      ap (λ alts. Some (record {
        log = m.on_log log;
        pos = Machine.after_where
            (record { rules = m.on_rules h.rules; name = bare_ident h.name; alts = alts });
      })) (m.with_alt h.alts ts ls)
  move_map at log (Machine.after_local h ts ls) t = refl
  move_map at log (Machine.after_where h) (sign (op Div)) = refl
  move_map at log (Machine.after_where h) semicolon =
      ap (λ rs. Some (record { log = m.on_log log; pos = Machine.between rs })) (m.with_rule h.rules h.name h.alts)
  move_map at log (Machine.after_where h) t = refl

  -- ---- runs

  abbrev pub on_read : Result (Read A) ℕ → Result (Read B) ℕ
  on_read (Ok r) = Ok (record { log = m.on_log r.log; rules = m.on_rules r.rules })
  on_read (Err n) = Err n

  ending_map : (at : ℕ) (log : A.Log) (pos : Pos A) → on_read (Machine.ending at log pos) ≡ Machine.ending at (m.on_log log) (on_pos pos)
  ending_map at log Machine.start = refl
  ending_map at log (Machine.between rs) = refl
  ending_map at log (Machine.rule_named rs i) = refl
  ending_map at log (Machine.local_named h ts ls i) = refl
  ending_map at log (Machine.before_term site) = refl
  ending_map at log (Machine.in_term site ts p) = refl
  ending_map at log (Machine.after_term site ts) = refl
  ending_map at log (Machine.where_named h ts) = refl
  ending_map at log (Machine.before_local h ts) = refl
  ending_map at log (Machine.after_local h ts ls) = refl
  ending_map at log (Machine.after_where h) = refl

  onward_map : (at : ℕ) (o : Option (State A)) (k : State A → Result (Read A) ℕ) (j : State B → Result (Read B) ℕ)
      → ((x : State A) → on_read (k x) ≡ j (on_state x))
      → on_read (Machine.onward at o k) ≡ Machine.onward at (option_map on_state o) j
  onward_map at (Some x) k j same = same x
  onward_map at None k j same = refl

  -- the machine commutes with the map
  pub verdict_map : (ts : List Tok) (at : ℕ) (s : State A) → on_read (verdict A at s ts) ≡ verdict B at (on_state s) (bare_toks ts)
  verdict_map [] at s = ending_map at s.log s.pos
  verdict_map (t ∷ ts) at s =
      onward_map at (Machine.step A at s t) (λ next. verdict A (at + 1) next ts) (λ next. verdict B (at + 1) next (bare_toks ts))
      (λ next. verdict_map ts (at + 1) next)
      ∙ ap (λ o. Machine.onward at o (λ next. verdict B (at + 1) next (bare_toks ts))) (move_map at s.log s.pos t)

  pub whole_map : (ts : List Tok) → on_read (verdict A 0 (Machine.start_state A) ts) ≡ verdict B 0 (Machine.start_state B) (bare_toks ts)
  whole_map ts = verdict_map ts 0 (Machine.start_state A) ∙ ap (λ log. verdict B 0 (record { log = log; pos = Machine.start }) (bare_toks ts)) m.blank
