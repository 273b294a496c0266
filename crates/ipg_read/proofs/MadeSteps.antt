-- What is made of the rows so far is what the machine has made, step by step.
use Rattle.std.proofs.Common.{◌≡◌, ℕ, ◌+◌, List, [], ◌∷◌, ◌++◌, Bool, true, false, cond, not, nat_le, Option, Some, None, refl, ap, ◌∙◌, sym, subst}
use Rattle.ipg_num.specs.declared.op.Op2.TheVariants.{Div, Sub}
use Rattle.ipg_ast.specs.declared.grammar.Ident.{Ident}
use Rattle.ipg_ast.specs.declared.grammar.Span.{Span}
use Rattle.ipg_ast.specs.declared.grammar.What.{What}
use Rattle.ipg_ast.specs.declared.grammar.Expr.{Expr}
use Rattle.ipg_ast.specs.declared.grammar.Expr.TheVariants as E
use Rattle.ipg_ast.specs.declared.grammar.Place.TheVariants as P
use Rattle.ipg_ast.specs.declared.grammar.Slot.{Slot}
use Rattle.ipg_ast.specs.declared.grammar.Case.{Case}
use Rattle.ipg_ast.specs.declared.grammar.Term.{Term}
use Rattle.ipg_ast.specs.declared.grammar.Term.TheVariants as T
use Rattle.ipg_ast.specs.declared.grammar.Alt.{Alt}
use Rattle.ipg_ast.specs.declared.grammar.Rule.{Rule}
use Rattle.ipg_read_syntax.specs.Classes as C
use Rattle.ipg_read_syntax.specs.Classes.{Infix, level, Tok}
use Rattle.ipg_read_syntax.specs.Machine as M
use Rattle.ipg_read_syntax.specs.Grammars.{infix_expr}
use Rattle.ipg_read_syntax.specs.Making.{made, last}
use Rattle.ipg_read_scan.specs.Lexemes.{infix_of, coded_infix}
use Rattle.ipg_read_scan.specs.declared.due.Due.{Due}
use Rattle.ipg_read_scan.specs.declared.due.Due.TheVariants as D
use Rattle.ipg_read_scan.specs.declared.row.Role.TheVariants as Use
use Rattle.ipg_read_scan.specs.declared.row.Extent.TheVariants as Extent
use Rattle.ipg_read_scan.specs.Rowed.{Row}
use Rattle.ipg_read_scan.specs.Rowed as R
use Rattle.ipg_read_scan.specs.Asked as A
use Rattle.ipg_read_scan.specs.Asked.{Step, lost, moved, after_rows, advance}
use Rattle.ipg_read.specs.Built.{Parts, slot, make, makes}
use Rattle.ipg_read.proofs.Dues.{use_role, use_due, frames_due, inner_due, base_due, part_due, site_due, pos_due}
use Rattle.ipg_read.proofs.Levels.{coded_back, above_none, above_zero, above_one, no_question, tighter}

abbrev Frames : Type 0
Frames = List (M.Frame made)

-- ---- what a position has

abbrev use_exprs : M.SlotUse made → List Expr
use_exprs M.alone = []
use_exprs (M.chosen at cs c) = c ∷ []
use_exprs (M.other at cs) = []

abbrev use_cases : M.SlotUse made → List Case
use_cases M.alone = []
use_cases (M.chosen at cs c) = cs
use_cases (M.other at cs) = cs

abbrev frames_exprs : Frames → List Expr → List Expr
frames_exprs [] es = es
frames_exprs (M.neg ∷ fs) es = frames_exprs fs es
frames_exprs (M.isnt ∷ fs) es = frames_exprs fs es
frames_exprs (M.left i a ∷ fs) es = a ∷ frames_exprs fs es
frames_exprs (M.group ∷ fs) es = frames_exprs fs es
frames_exprs (M.index i ∷ fs) es = frames_exprs fs es
frames_exprs (M.then_of c at ∷ fs) es = c ∷ frames_exprs fs es
frames_exprs (M.else_of c at a ∷ fs) es = a ∷ c ∷ frames_exprs fs es

abbrev frames_names : Frames → List Ident → List Ident
frames_names [] ns = ns
frames_names (M.neg ∷ fs) ns = frames_names fs ns
frames_names (M.isnt ∷ fs) ns = frames_names fs ns
frames_names (M.left i a ∷ fs) ns = frames_names fs ns
frames_names (M.group ∷ fs) ns = frames_names fs ns
frames_names (M.index i ∷ fs) ns = i ∷ frames_names fs ns
frames_names (M.then_of c at ∷ fs) ns = frames_names fs ns
frames_names (M.else_of c at a ∷ fs) ns = frames_names fs ns

abbrev base_exprs : M.Base made → List Expr
base_exprs (M.length_or_left u w at) = use_exprs u
base_exprs (M.right_of u w at l) = l ∷ use_exprs u
base_exprs (M.value_of x) = []
base_exprs (M.test_of at) = []
base_exprs (M.first_bound x) = []
base_exprs (M.last_bound x a) = a ∷ []
base_exprs (M.item_left x a b i) = b ∷ a ∷ []
base_exprs (M.item_right x a b i l) = l ∷ b ∷ a ∷ []
base_exprs (M.many_length_or_left at i) = []
base_exprs (M.many_right at i l) = l ∷ []
base_exprs (M.case_of at cs) = []

abbrev base_names : M.Base made → List Ident → List Ident
base_names (M.length_or_left u w at) ns = ns
base_names (M.right_of u w at l) ns = ns
base_names (M.value_of x) ns = x ∷ ns
base_names (M.test_of at) ns = ns
base_names (M.first_bound x) ns = x ∷ ns
base_names (M.last_bound x a) ns = x ∷ ns
base_names (M.item_left x a b i) ns = i ∷ x ∷ ns
base_names (M.item_right x a b i l) ns = i ∷ x ∷ ns
base_names (M.many_length_or_left at i) ns = i ∷ ns
base_names (M.many_right at i l) ns = i ∷ ns
base_names (M.case_of at cs) ns = ns

abbrev base_slots : M.Base made → List Slot
base_slots (M.length_or_left u w at) = slot w at ∷ []
base_slots (M.right_of u w at l) = slot w at ∷ []
base_slots base = []

abbrev base_cases : M.Base made → List Case
base_cases (M.length_or_left u w at) = use_cases u
base_cases (M.right_of u w at l) = use_cases u
base_cases (M.case_of at cs) = cs
base_cases base = []

abbrev head_of : M.Site made → M.Head made
head_of (M.global h) = h
head_of (M.local h outer ls n las) = h

abbrev names_of : M.Site made → List Ident
names_of (M.global h) = h.name ∷ []
names_of (M.local h outer ls n las) = n ∷ h.name ∷ []

abbrev outer_of : M.Site made → List Term
outer_of (M.global h) = []
outer_of (M.local h outer ls n las) = outer

abbrev local_alts_of : M.Site made → List Alt
local_alts_of (M.global h) = []
local_alts_of (M.local h outer ls n las) = las

abbrev locals_of : M.Site made → List Rule
locals_of (M.global h) = []
locals_of (M.local h outer ls n las) = ls

abbrev within : M.Site made → List Term → List Expr → List Ident → List Slot → List Case → Parts
within site ts es ns ss cs = record {
  exprs = es;
  names = ns;
  slots = ss;
  cases = cs;
  terms = ts;
  outer = outer_of site;
  local_alts = local_alts_of site;
  locals = locals_of site;
  alts = (head_of site).alts;
  rules = (head_of site).rules;
}

abbrev at_inner : M.Site made → List Term → M.Base made → M.Inner made → Parts
at_inner site ts base inner = go inner
  where
    having : List Expr → List Ident → Parts
    having es ns = within site ts es ns (base_slots base) (base_cases base)

    below : Frames → List Expr
    below fs = frames_exprs fs (base_exprs base)

    names : Frames → List Ident
    names fs = frames_names fs (base_names base (names_of site))

    go : M.Inner made → Parts
    go (M.want fs) = having (below fs) (names fs)
    go (M.have fs e) = having (e ∷ below fs) (names fs)
    go (M.named fs i) = having (below fs) (i ∷ names fs)
    go (M.dotted fs i) = having (below fs) (i ∷ names fs)
    go (M.indexed fs i e) = having (e ∷ below fs) (i ∷ names fs)
    go (M.index_dotted fs i e) = having (e ∷ below fs) (i ∷ names fs)

abbrev at_part : M.Site made → List Term → M.Part made → Parts
at_part site ts (M.slot_named u w at) = within site ts (use_exprs u) (names_of site) (slot w at ∷ []) (use_cases u)
at_part site ts (M.expr base first inner) = at_inner site ts base inner
at_part site ts (M.set_named x) = within site ts [] (x ∷ names_of site) [] []
at_part site ts (M.repeat_named x) = within site ts [] (x ∷ names_of site) [] []
at_part site ts (M.item_due x a b) = within site ts (b ∷ a ∷ []) (x ∷ names_of site) [] []
at_part site ts (M.item_named x a b i) = within site ts (b ∷ a ∷ []) (i ∷ x ∷ names_of site) [] []
at_part site ts (M.many_named at i) = within site ts [] (i ∷ names_of site) [] []
at_part site ts (M.next_case at cs) = within site ts [] (names_of site) [] cs
at_part site ts (M.case_open at cs) = within site ts [] (names_of site) [] cs
at_part site ts (M.slot_due u) = within site ts (use_exprs u) (names_of site) [] (use_cases u)
at_part site ts (M.pick_close at cs s) = within site ts [] (names_of site) (s ∷ []) cs
at_part site ts p = within site ts [] (names_of site) [] []

-- outside of alternatives
abbrev outside : List Ident → List Term → List Rule → List Alt → List Rule → Parts
outside ns outer ls alts rs =
    record { exprs = []; names = ns; slots = []; cases = []; terms = []; outer = outer; local_alts = []; locals = ls; alts = alts; rules = rs }

abbrev pub parts_at : M.Pos made → Parts
parts_at M.start = outside [] [] [] [] []
parts_at (M.between rs) = outside [] [] [] [] rs
parts_at (M.rule_named rs i) = outside (i ∷ []) [] [] [] rs
parts_at (M.local_named h ts ls i) = outside (i ∷ h.name ∷ []) ts ls h.alts h.rules
parts_at (M.before_term site) = within site [] [] (names_of site) [] []
parts_at (M.in_term site ts p) = at_part site ts p
parts_at (M.after_term site ts) = within site ts [] (names_of site) [] []
parts_at (M.where_named h ts) = outside (h.name ∷ []) ts [] h.alts h.rules
parts_at (M.before_local h ts) = outside (h.name ∷ []) ts [] h.alts h.rules
parts_at (M.after_local h ts ls) = outside (h.name ∷ []) ts ls h.alts h.rules
parts_at (M.after_where h) = outside (h.name ∷ []) [] [] h.alts h.rules

-- a step of what is due is one of the machine, and its rows lead to what that has made
abbrev pub Agrees : Parts → Step → Option (M.State made) → Type 0
Agrees p lost None = Unit {0}
Agrees p (moved rows due) (Some s) = (due ≡ pos_due s.pos) × (makes rows p ≡ parts_at s.pos)
Agrees p s o = ⊥

pub makes_append : (xs ys : List Row) (p : Parts) → makes (xs ++ ys) p ≡ makes ys (makes xs p)
makes_append [] ys p = refl
makes_append (x ∷ xs) ys p = makes_append xs ys (make x p)

later : (rows : List Row) (p : Parts) (s : Step) (o : Option (M.State made)) → Agrees (makes rows p) s o → Agrees p (after_rows rows s) o
later rows p lost None agrees = tt
later rows p lost (Some s) agrees = absurd agrees
later rows p (moved more due) None agrees = absurd agrees
later rows p (moved more due) (Some s) agrees = (agrees.0, makes_append rows more p ∙ agrees.1)

-- ---- after a term

tail_agrees : (at : ℕ) (site : M.Site made) (ts : List Term) (t : Tok)
    → Agrees (within site ts [] (names_of site) [] []) (advance at t (site_due site)) (M.after_term_move made at tt site ts t)
tail_agrees at (M.global h) ts (C.sign (C.op Div)) = (refl, refl)
tail_agrees at (M.local h outer ls n las) ts (C.sign (C.op Div)) = (refl, refl)
tail_agrees at (M.global h) ts C.semicolon = (refl, refl)
tail_agrees at (M.local h outer ls n las) ts C.semicolon = (refl, refl)
tail_agrees at (M.global h) ts C.where_word = (refl, refl)
tail_agrees at (M.local h outer ls n las) ts C.where_word = tt
tail_agrees at site ts (C.text bs span) = (refl, refl)
tail_agrees at site ts (C.name i) = (refl, refl)
tail_agrees at site ts C.left_brace = (refl, refl)
tail_agrees at site ts (C.question span) = (refl, refl)
tail_agrees at site ts C.for_word = (refl, refl)
tail_agrees at site ts (C.many_word span) = (refl, refl)
tail_agrees at site ts (C.switch_word span) = (refl, refl)
tail_agrees at site ts t = tt

first_agrees : (at : ℕ) (site : M.Site made) (t : Tok)
    → Agrees (within site [] [] (names_of site) [] []) (advance at t (pos_due (M.before_term site))) (M.move made at tt (M.before_term site) t)
first_agrees at (M.global h) (C.text bs span) = (refl, refl)
first_agrees at (M.local h outer ls n las) (C.text bs span) = (refl, refl)
first_agrees at (M.global h) (C.name i) = (refl, refl)
first_agrees at (M.local h outer ls n las) (C.name i) = (refl, refl)
first_agrees at (M.global h) C.left_brace = (refl, refl)
first_agrees at (M.local h outer ls n las) C.left_brace = (refl, refl)
first_agrees at (M.global h) (C.question span) = (refl, refl)
first_agrees at (M.local h outer ls n las) (C.question span) = (refl, refl)
first_agrees at (M.global h) C.for_word = (refl, refl)
first_agrees at (M.local h outer ls n las) C.for_word = (refl, refl)
first_agrees at (M.global h) (C.many_word span) = (refl, refl)
first_agrees at (M.local h outer ls n las) (C.many_word span) = (refl, refl)
first_agrees at (M.global h) (C.switch_word span) = (refl, refl)
first_agrees at (M.local h outer ls n las) (C.switch_word span) = (refl, refl)
first_agrees at site t = tt

-- ---- within a term

module _ (at : ℕ) (site : M.Site made) (ts : List Term) where
  abbrev sn : List Ident
  sn = names_of site

  abbrev Turns : Parts → Step → Tok → Option (M.Turn made) → Type 0
  Turns p s t turn = Agrees p s (M.turned made at site ts t turn)

  -- rows before the others
  over : (rows : List Row) (p q : Parts) (s : Step) (t : Tok) (turn : Option (M.Turn made)) → makes rows p ≡ q → Turns q s t turn
      → Turns p (after_rows rows s) t turn
  over rows p q s t turn same agrees = later rows p s (M.turned made at site ts t turn)
      (subst (λ c. Agrees c s (M.turned made at site ts t turn)) (sym same) agrees)

  cases_agree : (span : Span) (cs : List Case) (t : Tok) → Turns (within site ts [] sn [] cs) (advance at t (D.Cases span ∷ site_due site)) t
      (M.case_move made tt span cs t)
  cases_agree span cs C.case_word = (refl, refl)
  cases_agree span cs C.else_word = (refl, refl)
  cases_agree span cs t = tt

  pick_agrees : (span : Span) (cs : List Case) (s : Slot) (t : Tok)
      → Turns (within site ts [] sn (s ∷ []) cs) (advance at t (D.PickEnd span ∷ site_due site)) t (M.close_move made tt span cs s t)
  pick_agrees span cs s C.right_brace = (refl, refl)
  pick_agrees span cs s t = tt

  passed_agrees : (u : M.SlotUse made) (w : What) (at' : Span) (t : Tok)
      → Turns (within site ts (use_exprs u) sn (slot w at' ∷ []) (use_cases u))
      (after_rows (R.placed Extent.Open (use_role u) ∷ []) (advance at t (use_due u (site_due site)))) t
      (M.slot_passed made tt u (made.slot w at' made.anywhere) t)
  passed_agrees M.alone w at' t =
      let term : Term = T.Slot (slot w at') in
      later (R.placed Extent.Open Use.Term ∷ []) (within site ts [] sn (slot w at' ∷ []) []) (advance at t (site_due site))
      (M.after_term_move made at tt site (last ts term) t)
      (tail_agrees at site (last ts term) t)
  passed_agrees (M.chosen span cs c) w at' t =
      let more : List Case = last cs (record { cond = c; slot = slot w at' }) in
      over (R.placed Extent.Open Use.Case ∷ []) (within site ts (c ∷ []) sn (slot w at' ∷ []) cs) (within site ts [] sn [] more)
      (advance at t (D.Cases span ∷ site_due site)) t
      (M.case_move made tt span more t) refl (cases_agree span more t)
  passed_agrees (M.other span cs) w at' t =
      over (R.placed Extent.Open Use.Other ∷ []) (within site ts [] sn (slot w at' ∷ []) cs) (within site ts [] sn (slot w at' ∷ []) cs)
      (advance at t (D.PickEnd span ∷ site_due site)) t
      (M.close_move made tt span cs (slot w at') t) refl (pick_agrees span cs (slot w at') t)

  slot_agrees : (u : M.SlotUse made) (w : What) (span : Span) (t : Tok)
      → Turns (at_part site ts (M.slot_named u w span)) (advance at t (part_due (M.slot_named u w span) (site_due site))) t (M.slot_move made at tt u w span t)
  slot_agrees u w span C.left_bracket = (refl, refl)
  slot_agrees u w span t = passed_agrees u w span t

  many_agrees : (span : Span) (i : Ident) (t : Tok)
      → Turns (at_part site ts (M.many_named span i)) (advance at t (D.Place (Use.Many span) ∷ site_due site)) t (M.many_move made at tt span i t)
  many_agrees span i C.left_bracket = (refl, refl)
  many_agrees span i t =
      let term : Term = T.Many span i P.Open in
      later (R.placed Extent.Open (Use.Many span) ∷ []) (at_part site ts (M.many_named span i)) (advance at t (site_due site))
      (M.after_term_move made at tt site (last ts term) t)
      (tail_agrees at site (last ts term) t)

  opening_agrees : (u : M.SlotUse made) (t : Tok)
      → Turns (at_part site ts (M.slot_due u)) (advance at t (part_due (M.slot_due u) (site_due site))) t (M.stays made tt (M.slot_opening made u t))
  opening_agrees u (C.text bs span) = (refl, refl)
  opening_agrees u (C.name i) = (refl, refl)
  opening_agrees u t = tt

  -- ---- expressions

  ended_agrees : (base : M.Base made) (e : Expr) (t : Tok)
      → Turns (at_inner site ts base (M.have [] e)) (advance at t (base_due base (site_due site))) t (M.ended made at tt base e t)
  ended_agrees (M.length_or_left M.alone w span) e C.right_bracket = (refl, refl)
  ended_agrees (M.length_or_left (M.chosen x cs c) w span) e C.right_bracket = (refl, refl)
  ended_agrees (M.length_or_left (M.other x cs) w span) e C.right_bracket = (refl, refl)
  ended_agrees (M.length_or_left u w span) e C.comma = (refl, refl)
  ended_agrees (M.length_or_left u w span) e t = tt
  ended_agrees (M.right_of M.alone w span l) e C.right_bracket = (refl, refl)
  ended_agrees (M.right_of (M.chosen x cs c) w span l) e C.right_bracket = (refl, refl)
  ended_agrees (M.right_of (M.other x cs) w span l) e C.right_bracket = (refl, refl)
  ended_agrees (M.right_of u w span l) e t = tt
  ended_agrees (M.value_of x) e C.right_brace = (refl, refl)
  ended_agrees (M.value_of x) e t = tt
  ended_agrees (M.test_of span) e C.right_paren = (refl, refl)
  ended_agrees (M.test_of span) e t = tt
  ended_agrees (M.first_bound x) e C.to_word = (refl, refl)
  ended_agrees (M.first_bound x) e t = tt
  ended_agrees (M.last_bound x a) e C.do_word = (refl, refl)
  ended_agrees (M.last_bound x a) e t = tt
  ended_agrees (M.item_left x a b i) e C.comma = (refl, refl)
  ended_agrees (M.item_left x a b i) e t = tt
  ended_agrees (M.item_right x a b i l) e C.right_bracket = (refl, refl)
  ended_agrees (M.item_right x a b i l) e t = tt
  ended_agrees (M.many_length_or_left span i) e C.right_bracket = (refl, refl)
  ended_agrees (M.many_length_or_left span i) e C.comma = (refl, refl)
  ended_agrees (M.many_length_or_left span i) e t = tt
  ended_agrees (M.many_right span i l) e C.right_bracket = (refl, refl)
  ended_agrees (M.many_right span i l) e t = tt
  ended_agrees (M.case_of span cs) e C.right_paren = (refl, refl)
  ended_agrees (M.case_of span cs) e t = tt

  module _ (base : M.Base made) (first : ℕ) where
    abbrev rest_due : List Due
    rest_due = D.Whole first ∷ base_due base (site_due site)

    abbrev had : Frames → Expr → Tok → Option (M.Turn made)
    had fs e t = M.have_move made at tt base first fs e t

    abbrev having : Frames → Expr → Parts
    having fs e = at_inner site ts base (M.have fs e)

    abbrev at_have : Frames → Expr → Tok → Type 0
    at_have fs e t = Turns (having fs e) (advance at t (frames_due fs rest_due)) t (had fs e t)

    -- frames that close over the operand: rows, and what there is before and after them
    closed : (rows : List Row) (p : Parts) (fs : Frames) (e : Expr) (t : Tok) → makes rows p ≡ having fs e
        → at_have fs e t → Turns p (after_rows rows (advance at t (frames_due fs rest_due))) t (had fs e t)
    closed rows p fs e t same agrees = over rows p (having fs e) (advance at t (frames_due fs rest_due)) t (had fs e t) same agrees

    -- the same, after an entry that makes no row
    unmade : (rows : List Row) (p : Parts) (fs : Frames) (e : Expr) (t : Tok) → makes rows p ≡ having fs e
        → at_have fs e t → Turns p (after_rows [] (after_rows rows (advance at t (frames_due fs rest_due)))) t (had fs e t)
    unmade rows p fs e t same agrees = over [] p p (after_rows rows (advance at t (frames_due fs rest_due))) t (had fs e t) refl
        (closed rows p fs e t same agrees)

    two_made : (fs : Frames) (j : Infix) (a e : Expr) → makes (R.two (infix_of (coded_infix j)) ∷ []) (having (M.left j a ∷ fs) e)
        ≡ having fs (infix_expr j a e)
    two_made fs j a e = ap (λ k. having fs (infix_expr k a e)) (coded_back j)

    abbrev loosest : Bool → Infix → A.Answer
    loosest b i = cond b (A.onward (D.Operand ∷ D.Rest (level i + 1) ∷ D.Two (coded_infix i) ∷ D.Rest 0 ∷ [])) (A.passed [])

    -- where all operators go on
    zero_sign : (below : List Due) (p : Parts) (i : Infix) (turn : Option (M.Turn made))
        → Turns p (A.settled (loosest true i) below (advance at (C.sign i) below)) (C.sign i) turn
        → Turns p (A.settled (A.operator 0 i) below (advance at (C.sign i) below)) (C.sign i) turn
    zero_sign below p i turn agrees = subst (λ b. Turns p (A.settled (loosest b i) below (advance at (C.sign i) below)) (C.sign i) turn)
        (sym (above_zero i)) agrees

    left_other : (p : Parts) (s : Step) (fs : Frames) (j : Infix) (a e : Expr) (t : Tok)
        → Turns p s t (M.finished made at tt base first (M.close made 0 fs (infix_expr j a e)) t)
        → Turns p s t (M.finished made at tt base first (M.close made 0 (M.left j a ∷ fs) e) t)
    left_other p s fs j a e t agrees =
        subst (λ b. Turns p s t
        (M.finished made at tt base first (cond b (M.close made 0 fs (infix_expr j a e)) (record { frames = M.left j a ∷ fs; operand = e })) t))
        (sym (above_zero j)) agrees

    left_sign : (fs : Frames) (j : Infix) (a e : Expr) (i : Infix) → at_have fs (infix_expr j a e) (C.sign i) → at_have (M.left j a ∷ fs) e (C.sign i)
    left_sign fs j a e i agrees = subst (λ b. by b (nat_le (level i) (level j))) (sym (tighter (level j) (level i))) (go (nat_le (level i) (level j)))
      where
        below : List Due
        below = D.Two (coded_infix j) ∷ frames_due fs rest_due

        stopped : M.Closing made
        stopped = record { frames = M.left j a ∷ fs; operand = e }

        above : M.Closing made
        above = M.close made (level i) fs (infix_expr j a e)

        by : Bool → Bool → Type 0
        by b c = Turns (having (M.left j a ∷ fs) e)
            (A.settled (cond b (A.onward (D.Operand ∷ D.Rest (level i + 1) ∷ D.Two (coded_infix i) ∷ D.Rest (level j + 1) ∷ [])) (A.passed [])) below
            (advance at (C.sign i) below))
            (C.sign i) (Some (M.still tt (M.expr base first (M.with_left i (cond c above stopped)))))

        go : (c : Bool) → by (not c) c
        go true = unmade (R.two (infix_of (coded_infix j)) ∷ []) (having (M.left j a ∷ fs) e) fs (infix_expr j a e) (C.sign i) (two_made fs j a e) agrees
        go false = (refl, refl)

    left_question : (fs : Frames) (j : Infix) (a e : Expr) (span : Span) → at_have fs (infix_expr j a e) (C.question span)
        → at_have (M.left j a ∷ fs) e (C.question span)
    left_question fs j a e span agrees =
        subst (λ answer. by answer (nat_le 1 (level j))) (sym (no_question j)) (subst (λ b. by (A.passed []) b) (sym (above_one j))
        (unmade (R.two (infix_of (coded_infix j)) ∷ []) (having (M.left j a ∷ fs) e) fs (infix_expr j a e) (C.question span) (two_made fs j a e) agrees))
      where
        below : List Due
        below = D.Two (coded_infix j) ∷ frames_due fs rest_due

        by : A.Answer → Bool → Type 0
        by answer c = Turns (having (M.left j a ∷ fs) e) (A.settled answer below (advance at (C.question span) below)) (C.question span)
            (Some (M.still tt (M.expr base first
            (M.with_test span (cond c (M.close made 1 fs (infix_expr j a e)) (record { frames = M.left j a ∷ fs; operand = e }))))))

    else_sign : (fs : Frames) (c : Expr) (q : Span) (a e : Expr) (i : Infix) → at_have (M.else_of c q a ∷ fs) e (C.sign i)
    else_sign fs c q a e i =
        subst by (sym (above_none i)) (zero_sign (D.Cond ∷ frames_due fs rest_due) (having (M.else_of c q a ∷ fs) e) i (stops false) (refl, refl))
      where
        stops : Bool → Option (M.Turn made)
        stops b = Some (M.still tt
            (M.expr base first (M.with_left i (cond b (M.close made (level i) fs (E.Cond c a e)) (record { frames = M.else_of c q a ∷ fs; operand = e })))))

        by : Bool → Type 0
        by b = Turns (having (M.else_of c q a ∷ fs) e) (advance at (C.sign i) (frames_due (M.else_of c q a ∷ fs) rest_due)) (C.sign i) (stops b)

    whole_agrees : (e : Expr) (t : Tok) → Turns (having [] e) (after_rows [] (after_rows (R.whole first ∷ []) (advance at t (base_due base (site_due site))))) t
        (M.finish made at tt base first [] e t)
    whole_agrees e t =
        let s : Step = advance at t (base_due base (site_due site)) in
        over [] (having [] e) (having [] e) (after_rows (R.whole first ∷ []) s) t (M.ended made at tt base e t) refl
        (over (R.whole first ∷ []) (having [] e) (having [] e) s t (M.ended made at tt base e t) refl (ended_agrees base e t))

    have_agrees : (fs : Frames) (e : Expr) (t : Tok) → at_have fs e t
    have_agrees [] e (C.sign i) = zero_sign rest_due (having ([]) e) i (had ([]) e (C.sign i)) (refl, refl)
    have_agrees [] e (C.question span) = (refl, refl)
    have_agrees [] e t = whole_agrees e t
    have_agrees (M.neg ∷ fs) e (C.sign i) = closed (R.neg ∷ []) (having (M.neg ∷ fs) e) fs (made.neg e) (C.sign i) refl (have_agrees fs (made.neg e) (C.sign i))
    have_agrees (M.neg ∷ fs) e (C.question span) = closed (R.neg ∷ []) (having (M.neg ∷ fs) e) fs (made.neg e) (C.question span) refl
        (have_agrees fs (made.neg e) (C.question span))
    have_agrees (M.neg ∷ fs) e t = closed (R.neg ∷ []) (having (M.neg ∷ fs) e) fs (made.neg e) t refl (have_agrees fs (made.neg e) t)
    have_agrees (M.isnt ∷ fs) e (C.sign i) = closed (R.isnt ∷ []) (having (M.isnt ∷ fs) e) fs (made.isnt e) (C.sign i) refl
        (have_agrees fs (made.isnt e) (C.sign i))
    have_agrees (M.isnt ∷ fs) e (C.question span) = closed (R.isnt ∷ []) (having (M.isnt ∷ fs) e) fs (made.isnt e) (C.question span) refl
        (have_agrees fs (made.isnt e) (C.question span))
    have_agrees (M.isnt ∷ fs) e t = closed (R.isnt ∷ []) (having (M.isnt ∷ fs) e) fs (made.isnt e) t refl (have_agrees fs (made.isnt e) t)
    have_agrees (M.left j a ∷ fs) e (C.sign i) = left_sign fs j a e i (have_agrees fs (infix_expr j a e) (C.sign i))
    have_agrees (M.left j a ∷ fs) e (C.question span) = left_question fs j a e span (have_agrees fs (infix_expr j a e) (C.question span))
    have_agrees (M.left j a ∷ fs) e t =
        left_other (having (M.left j a ∷ fs) e) (after_rows [] (after_rows (R.two (infix_of (coded_infix j)) ∷ []) (advance at t (frames_due fs rest_due)))) fs
        j a e t
        (unmade (R.two (infix_of (coded_infix j)) ∷ []) (having (M.left j a ∷ fs) e) fs (infix_expr j a e) t (two_made fs j a e)
        (have_agrees fs (infix_expr j a e) t))
    have_agrees (M.group ∷ fs) e (C.sign i) = zero_sign (D.GroupEnd ∷ frames_due fs rest_due) (having (M.group ∷ fs) e) i (had (M.group ∷ fs) e (C.sign i))
        (refl, refl)
    have_agrees (M.group ∷ fs) e (C.question span) = (refl, refl)
    have_agrees (M.group ∷ fs) e C.right_paren = (refl, refl)
    have_agrees (M.group ∷ fs) e t = tt
    have_agrees (M.index x ∷ fs) e (C.sign i) = zero_sign (D.IndexEnd ∷ frames_due fs rest_due) (having (M.index x ∷ fs) e) i
        (had (M.index x ∷ fs) e (C.sign i)) (refl, refl)
    have_agrees (M.index x ∷ fs) e (C.question span) = (refl, refl)
    have_agrees (M.index x ∷ fs) e C.right_paren = (refl, refl)
    have_agrees (M.index x ∷ fs) e t = tt
    have_agrees (M.then_of c q ∷ fs) e (C.sign i) = zero_sign (D.CondColon ∷ frames_due fs rest_due) (having (M.then_of c q ∷ fs) e) i
        (had (M.then_of c q ∷ fs) e (C.sign i)) (refl, refl)
    have_agrees (M.then_of c q ∷ fs) e (C.question span) = (refl, refl)
    have_agrees (M.then_of c q ∷ fs) e C.colon = (refl, refl)
    have_agrees (M.then_of c q ∷ fs) e t = tt
    have_agrees (M.else_of c q a ∷ fs) e (C.sign i) = else_sign fs c q a e i
    have_agrees (M.else_of c q a ∷ fs) e (C.question span) = (refl, refl)
    have_agrees (M.else_of c q a ∷ fs) e t =
        unmade (R.choose ∷ []) (having (M.else_of c q a ∷ fs) e) fs (E.Cond c a e) t refl (have_agrees fs (E.Cond c a e) t)

    name_agrees : (fs : Frames) (i : Ident) (t : Tok)
        → Turns (at_inner site ts base (M.named fs i)) (advance at t (inner_due (M.named fs i) rest_due)) t (M.name_move made at tt base first fs i t)
    name_agrees fs i C.dot = (refl, refl)
    name_agrees fs i C.left_paren = (refl, refl)
    name_agrees fs i t = closed (R.own ∷ []) (at_inner site ts base (M.named fs i)) fs (E.Id i) t refl (have_agrees fs (E.Id i) t)

    inner_agrees : (inner : M.Inner made) (t : Tok) → Turns (at_inner site ts base inner) (advance at t (inner_due inner rest_due)) t
        (M.expr_move made at tt base first inner t)
    inner_agrees (M.want fs) (C.number z) = (refl, refl)
    inner_agrees (M.want fs) C.eoi_word = (refl, refl)
    inner_agrees (M.want fs) (C.name i) = (refl, refl)
    inner_agrees (M.want fs) C.left_paren = (refl, refl)
    inner_agrees (M.want fs) (C.sign (C.op Sub)) = (refl, refl)
    inner_agrees (M.want fs) C.bang = (refl, refl)
    inner_agrees (M.want fs) t = tt
    inner_agrees (M.have fs e) t = have_agrees fs e t
    inner_agrees (M.named fs i) t = name_agrees fs i t
    inner_agrees (M.dotted fs i) (C.name n) = (refl, refl)
    inner_agrees (M.dotted fs i) C.start_word = (refl, refl)
    inner_agrees (M.dotted fs i) C.end_word = (refl, refl)
    inner_agrees (M.dotted fs i) t = tt
    inner_agrees (M.indexed fs i e) C.dot = (refl, refl)
    inner_agrees (M.indexed fs i e) t = tt
    inner_agrees (M.index_dotted fs i e) (C.name n) = (refl, refl)
    inner_agrees (M.index_dotted fs i e) C.start_word = (refl, refl)
    inner_agrees (M.index_dotted fs i e) C.end_word = (refl, refl)
    inner_agrees (M.index_dotted fs i e) t = tt

  -- ---- terms

  part_agrees : (p : M.Part made) (t : Tok) → Turns (at_part site ts p) (advance at t (part_due p (site_due site))) t (M.part_move made at tt p t)
  part_agrees (M.slot_named u w span) t = slot_agrees u w span t
  part_agrees (M.expr base first inner) t = inner_agrees base first inner t
  part_agrees M.set_open (C.name x) = (refl, refl)
  part_agrees M.set_open t = tt
  part_agrees (M.set_named x) C.equals = (refl, refl)
  part_agrees (M.set_named x) t = tt
  part_agrees (M.test_open span) C.left_paren = (refl, refl)
  part_agrees (M.test_open span) t = tt
  part_agrees M.repeat_open (C.name x) = (refl, refl)
  part_agrees M.repeat_open t = tt
  part_agrees (M.repeat_named x) C.equals = (refl, refl)
  part_agrees (M.repeat_named x) t = tt
  part_agrees (M.item_due x a b) (C.name i) = (refl, refl)
  part_agrees (M.item_due x a b) t = tt
  part_agrees (M.item_named x a b i) C.left_bracket = (refl, refl)
  part_agrees (M.item_named x a b i) t = tt
  part_agrees (M.many_open span) (C.name i) = (refl, refl)
  part_agrees (M.many_open span) t = tt
  part_agrees (M.many_named span i) t = many_agrees span i t
  part_agrees (M.pick_open span) C.left_brace = (refl, refl)
  part_agrees (M.pick_open span) t = tt
  part_agrees (M.first_case span) C.case_word = (refl, refl)
  part_agrees (M.first_case span) t = tt
  part_agrees (M.next_case span cs) t = cases_agree span cs t
  part_agrees (M.case_open span cs) C.left_paren = (refl, refl)
  part_agrees (M.case_open span cs) t = tt
  part_agrees (M.slot_due u) t = opening_agrees u t
  part_agrees (M.pick_close span cs s) t = pick_agrees span cs s t

-- ---- all positions

pub move_agrees : (at : ℕ) (pos : M.Pos made) (t : Tok) → Agrees (parts_at pos) (advance at t (pos_due pos)) (M.move made at tt pos t)
move_agrees at M.start (C.name i) = (refl, refl)
move_agrees at M.start t = tt
move_agrees at (M.between rs) (C.name i) = (refl, refl)
move_agrees at (M.between rs) t = tt
move_agrees at (M.rule_named rs i) C.arrow = (refl, refl)
move_agrees at (M.rule_named rs i) t = tt
move_agrees at (M.local_named h ts ls i) C.arrow = (refl, refl)
move_agrees at (M.local_named h ts ls i) t = tt
move_agrees at (M.before_term site) t = first_agrees at site t
move_agrees at (M.in_term site ts p) t = part_agrees at site ts p t
move_agrees at (M.after_term site ts) t = tail_agrees at site ts t
move_agrees at (M.where_named h ts) C.left_brace = (refl, refl)
move_agrees at (M.where_named h ts) t = tt
move_agrees at (M.before_local h ts) (C.name i) = (refl, refl)
move_agrees at (M.before_local h ts) t = tt
move_agrees at (M.after_local h ts ls) (C.name i) = (refl, refl)
move_agrees at (M.after_local h ts ls) C.right_brace = (refl, refl)
move_agrees at (M.after_local h ts ls) t = tt
move_agrees at (M.after_where h) (C.sign (C.op Div)) = (refl, refl)
move_agrees at (M.after_where h) C.semicolon = (refl, refl)
move_agrees at (M.after_where h) t = tt
