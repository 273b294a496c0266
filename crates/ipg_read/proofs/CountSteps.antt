-- The counts of the rows made so far are those that the machine has, step by step.
use Rattle.std.proofs.Common.{◌≡◌, ℕ, ◌+◌, List, [], ◌∷◌, ◌++◌, Bool, true, false, cond, not, nat_le, Option, Some, None, refl, ◌∙◌, sym, subst}
use Rattle.ipg_num.specs.declared.op.Op2.TheVariants.{Div, Sub}
use Rattle.ipg_ast.specs.declared.grammar.Ident.{Ident}
use Rattle.ipg_ast.specs.declared.grammar.Span.{Span}
use Rattle.ipg_ast.specs.declared.grammar.What.{What}
use Rattle.ipg_read_syntax.specs.Classes as C
use Rattle.ipg_read_syntax.specs.Classes.{Infix, level, Tok}
use Rattle.ipg_read_syntax.specs.Machine as M
use Rattle.ipg_read_tokens.specs.declared.fault.Which.TheVariants.{Terms}
use Rattle.ipg_read_syntax.specs.Counting.{Seen, counters, more}
use Rattle.ipg_read_scan.specs.Lexemes.{infix_of, coded_infix}
use Rattle.ipg_read_scan.specs.declared.due.Due.{Due}
use Rattle.ipg_read_scan.specs.declared.due.Due.TheVariants as D
use Rattle.ipg_read_scan.specs.declared.row.Role.TheVariants as Use
use Rattle.ipg_read_scan.specs.declared.row.Extent.TheVariants as Extent
use Rattle.ipg_read_scan.specs.Rowed.{Row}
use Rattle.ipg_read_scan.specs.Rowed as R
use Rattle.ipg_read_scan.specs.Asked as A
use Rattle.ipg_read_scan.specs.Asked.{Step, lost, moved, after_rows, advance}
use Rattle.ipg_read.specs.Counted.{Counts, note, notes}
use Rattle.ipg_read.proofs.Dues.{use_role, use_due, frames_due, inner_due, base_due, part_due, site_due, pos_due}
use Rattle.ipg_read.proofs.Levels.{above_none, above_zero, above_one, no_question, tighter}

abbrev Frames : Type 0
Frames = List (M.Frame counters)

-- ---- what a position has

abbrev frames_depths : Frames → List ℕ
frames_depths [] = []
frames_depths (M.neg ∷ fs) = frames_depths fs
frames_depths (M.isnt ∷ fs) = frames_depths fs
frames_depths (M.left i a ∷ fs) = a ∷ frames_depths fs
frames_depths (M.group ∷ fs) = frames_depths fs
frames_depths (M.index i ∷ fs) = frames_depths fs
frames_depths (M.then_of c at ∷ fs) = c ∷ frames_depths fs
frames_depths (M.else_of c at a ∷ fs) = a ∷ c ∷ frames_depths fs

abbrev inner_depths : M.Inner counters → List ℕ
inner_depths (M.want fs) = frames_depths fs
inner_depths (M.have fs e) = e ∷ frames_depths fs
inner_depths (M.named fs i) = frames_depths fs
inner_depths (M.dotted fs i) = frames_depths fs
inner_depths (M.indexed fs i e) = e ∷ frames_depths fs
inner_depths (M.index_dotted fs i e) = e ∷ frames_depths fs

abbrev part_depths : M.Part counters → List ℕ
part_depths (M.expr base first inner) = inner_depths inner
part_depths p = []

abbrev head_of : M.Site counters → M.Head counters
head_of (M.global h) = h
head_of (M.local h outer ls n las) = h

abbrev local_alts_of : M.Site counters → ℕ
local_alts_of (M.global h) = 0
local_alts_of (M.local h outer ls n las) = las

abbrev within : M.Site counters → ℕ → Seen → List ℕ → Counts
within site ts log ds = record { seen = log; depths = ds; terms = ts; alts = (head_of site).alts; local_alts = local_alts_of site }

abbrev between : ℕ → Seen → Counts
between alts log = record { seen = log; depths = []; terms = 0; alts = alts; local_alts = 0 }

abbrev pub counts_at : Seen → M.Pos counters → Counts
counts_at log M.start = between 0 log
counts_at log (M.between rs) = between 0 log
counts_at log (M.rule_named rs i) = between 0 log
counts_at log (M.local_named h ts ls i) = between h.alts log
counts_at log (M.before_term site) = within site 0 log []
counts_at log (M.in_term site ts p) = within site ts log (part_depths p)
counts_at log (M.after_term site ts) = within site ts log []
counts_at log (M.where_named h ts) = between h.alts log
counts_at log (M.before_local h ts) = between h.alts log
counts_at log (M.after_local h ts ls) = between h.alts log
counts_at log (M.after_where h) = between h.alts log

-- a step of what is due is one of the machine, and its rows lead to what that has
abbrev pub Agrees : Counts → Step → Option (M.State counters) → Type 0
Agrees c lost None = Unit {0}
Agrees c (moved rows due) (Some s) = (due ≡ pos_due s.pos) × (notes rows c ≡ counts_at s.log s.pos)
Agrees c s o = ⊥

pub notes_append : (xs ys : List Row) (c : Counts) → notes (xs ++ ys) c ≡ notes ys (notes xs c)
notes_append [] ys c = refl
notes_append (x ∷ xs) ys c = notes_append xs ys (note x c)

later : (rows : List Row) (c : Counts) (s : Step) (o : Option (M.State counters)) → Agrees (notes rows c) s o → Agrees c (after_rows rows s) o
later rows c lost None agrees = tt
later rows c lost (Some s) agrees = absurd agrees
later rows c (moved more due) None agrees = absurd agrees
later rows c (moved more due) (Some s) agrees = (agrees.0, notes_append rows more c ∙ agrees.1)

-- ---- after a term

tail_agrees : (at : ℕ) (log : Seen) (site : M.Site counters) (ts : ℕ) (t : Tok)
    → Agrees (within site ts log []) (advance at t (site_due site)) (M.after_term_move counters at log site ts t)
tail_agrees at log (M.global h) ts (C.sign (C.op Div)) = (refl, refl)
tail_agrees at log (M.local h outer ls n las) ts (C.sign (C.op Div)) = (refl, refl)
tail_agrees at log (M.global h) ts C.semicolon = (refl, refl)
tail_agrees at log (M.local h outer ls n las) ts C.semicolon = (refl, refl)
tail_agrees at log (M.global h) ts C.where_word = (refl, refl)
tail_agrees at log (M.local h outer ls n las) ts C.where_word = tt
tail_agrees at log site ts (C.text bs span) = (refl, refl)
tail_agrees at log site ts (C.name i) = (refl, refl)
tail_agrees at log site ts C.left_brace = (refl, refl)
tail_agrees at log site ts (C.question span) = (refl, refl)
tail_agrees at log site ts C.for_word = (refl, refl)
tail_agrees at log site ts (C.many_word span) = (refl, refl)
tail_agrees at log site ts (C.switch_word span) = (refl, refl)
tail_agrees at log site ts t = tt

first_agrees : (at : ℕ) (log : Seen) (site : M.Site counters) (t : Tok)
    → Agrees (within site 0 log []) (advance at t (pos_due (M.before_term site))) (M.move counters at log (M.before_term site) t)
first_agrees at log (M.global h) (C.text bs span) = (refl, refl)
first_agrees at log (M.local h outer ls n las) (C.text bs span) = (refl, refl)
first_agrees at log (M.global h) (C.name i) = (refl, refl)
first_agrees at log (M.local h outer ls n las) (C.name i) = (refl, refl)
first_agrees at log (M.global h) C.left_brace = (refl, refl)
first_agrees at log (M.local h outer ls n las) C.left_brace = (refl, refl)
first_agrees at log (M.global h) (C.question span) = (refl, refl)
first_agrees at log (M.local h outer ls n las) (C.question span) = (refl, refl)
first_agrees at log (M.global h) C.for_word = (refl, refl)
first_agrees at log (M.local h outer ls n las) C.for_word = (refl, refl)
first_agrees at log (M.global h) (C.many_word span) = (refl, refl)
first_agrees at log (M.local h outer ls n las) (C.many_word span) = (refl, refl)
first_agrees at log (M.global h) (C.switch_word span) = (refl, refl)
first_agrees at log (M.local h outer ls n las) (C.switch_word span) = (refl, refl)
first_agrees at log site t = tt

-- ---- within a term

module _ (at : ℕ) (site : M.Site counters) (ts : ℕ) where
  abbrev Turns : Seen → List ℕ → Step → Tok → Option (M.Turn counters) → Type 0
  Turns log ds s t turn = Agrees (within site ts log ds) s (M.turned counters at site ts t turn)

  -- rows before the others
  over : (log log' : Seen) (rows : List Row) (ds ds' : List ℕ) (s : Step) (t : Tok) (turn : Option (M.Turn counters))
      → notes rows (within site ts log ds) ≡ within site ts log' ds' → Turns log' ds' s t turn → Turns log ds (after_rows rows s) t turn
  over log log' rows ds ds' s t turn same agrees =
      later rows (within site ts log ds) s (M.turned counters at site ts t turn)
      (subst (λ c. Agrees c s (M.turned counters at site ts t turn)) (sym same) agrees)

  cases_agree : (log : Seen) (span : Span) (t : Tok) → Turns log [] (advance at t (D.Cases span ∷ site_due site)) t (M.case_move counters log span tt t)
  cases_agree log span C.case_word = (refl, refl)
  cases_agree log span C.else_word = (refl, refl)
  cases_agree log span t = tt

  pick_agrees : (log : Seen) (span : Span) (t : Tok) → Turns log [] (advance at t (D.PickEnd span ∷ site_due site)) t (M.close_move counters log span tt tt t)
  pick_agrees log span C.right_brace = (refl, refl)
  pick_agrees log span t = tt

  passed_agrees : (log : Seen) (u : M.SlotUse counters) (t : Tok)
      → Turns log [] (after_rows (R.placed Extent.Open (use_role u) ∷ []) (advance at t (use_due u (site_due site)))) t (M.slot_passed counters log u tt t)
  passed_agrees log M.alone t =
      later (R.placed Extent.Open Use.Term ∷ []) (within site ts log []) (advance at t (site_due site))
      (M.after_term_move counters at log site (more Terms ts) t)
      (tail_agrees at log site (more Terms ts) t)
  passed_agrees log (M.chosen span cs c) t =
      over log log (R.placed Extent.Open Use.Case ∷ []) [] [] (advance at t (D.Cases span ∷ site_due site)) t (M.case_move counters log span tt t) refl
      (cases_agree log span t)
  passed_agrees log (M.other span cs) t =
      over log log (R.placed Extent.Open Use.Other ∷ []) [] [] (advance at t (D.PickEnd span ∷ site_due site)) t (M.close_move counters log span tt tt t) refl
      (pick_agrees log span t)

  slot_agrees : (log : Seen) (u : M.SlotUse counters) (w : What) (span : Span) (t : Tok)
      → Turns log [] (advance at t (part_due (M.slot_named u w span) (site_due site))) t (M.slot_move counters at log u w span t)
  slot_agrees log u w span C.left_bracket = (refl, refl)
  slot_agrees log u w span t = passed_agrees log u t

  many_agrees : (log : Seen) (span : Span) (i : Ident) (t : Tok)
      → Turns log [] (advance at t (D.Place (Use.Many span) ∷ site_due site)) t (M.many_move counters at log span i t)
  many_agrees log span i C.left_bracket = (refl, refl)
  many_agrees log span i t =
      later (R.placed Extent.Open (Use.Many span) ∷ []) (within site ts log []) (advance at t (site_due site))
      (M.after_term_move counters at log site (more Terms ts) t)
      (tail_agrees at log site (more Terms ts) t)

  opening_agrees : (log : Seen) (u : M.SlotUse counters) (t : Tok)
      → Turns log [] (advance at t (part_due (M.slot_due u) (site_due site))) t (M.stays counters log (M.slot_opening counters u t))
  opening_agrees log u (C.text bs span) = (refl, refl)
  opening_agrees log u (C.name i) = (refl, refl)
  opening_agrees log u t = tt

  -- ---- expressions

  ended_agrees : (log : Seen) (base : M.Base counters) (e : ℕ) (t : Tok)
      → Turns log [] (advance at t (base_due base (site_due site))) t (M.ended counters at log base e t)
  ended_agrees log (M.length_or_left M.alone w span) e C.right_bracket = (refl, refl)
  ended_agrees log (M.length_or_left (M.chosen x cs c) w span) e C.right_bracket = (refl, refl)
  ended_agrees log (M.length_or_left (M.other x cs) w span) e C.right_bracket = (refl, refl)
  ended_agrees log (M.length_or_left u w span) e C.comma = (refl, refl)
  ended_agrees log (M.length_or_left u w span) e t = tt
  ended_agrees log (M.right_of M.alone w span l) e C.right_bracket = (refl, refl)
  ended_agrees log (M.right_of (M.chosen x cs c) w span l) e C.right_bracket = (refl, refl)
  ended_agrees log (M.right_of (M.other x cs) w span l) e C.right_bracket = (refl, refl)
  ended_agrees log (M.right_of u w span l) e t = tt
  ended_agrees log (M.value_of x) e C.right_brace = (refl, refl)
  ended_agrees log (M.value_of x) e t = tt
  ended_agrees log (M.test_of span) e C.right_paren = (refl, refl)
  ended_agrees log (M.test_of span) e t = tt
  ended_agrees log (M.first_bound x) e C.to_word = (refl, refl)
  ended_agrees log (M.first_bound x) e t = tt
  ended_agrees log (M.last_bound x a) e C.do_word = (refl, refl)
  ended_agrees log (M.last_bound x a) e t = tt
  ended_agrees log (M.item_left x a b i) e C.comma = (refl, refl)
  ended_agrees log (M.item_left x a b i) e t = tt
  ended_agrees log (M.item_right x a b i l) e C.right_bracket = (refl, refl)
  ended_agrees log (M.item_right x a b i l) e t = tt
  ended_agrees log (M.many_length_or_left span i) e C.right_bracket = (refl, refl)
  ended_agrees log (M.many_length_or_left span i) e C.comma = (refl, refl)
  ended_agrees log (M.many_length_or_left span i) e t = tt
  ended_agrees log (M.many_right span i l) e C.right_bracket = (refl, refl)
  ended_agrees log (M.many_right span i l) e t = tt
  ended_agrees log (M.case_of span cs) e C.right_paren = (refl, refl)
  ended_agrees log (M.case_of span cs) e t = tt

  module _ (log : Seen) (base : M.Base counters) (first : ℕ) where
    abbrev rest_due : List Due
    rest_due = D.Whole first ∷ base_due base (site_due site)

    abbrev had : Frames → ℕ → Tok → Option (M.Turn counters)
    had fs e t = M.have_move counters at log base first fs e t

    abbrev at_have : Frames → ℕ → Tok → Type 0
    at_have fs e t = Turns log (e ∷ frames_depths fs) (advance at t (frames_due fs rest_due)) t (had fs e t)

    -- frames that close over the operand: rows, and the depths before and after them
    closed : (rows : List Row) (ds : List ℕ) (fs : Frames) (e : ℕ) (t : Tok) → notes rows (within site ts log ds) ≡ within site ts log (e ∷ frames_depths fs)
        → at_have fs e t → Turns log ds (after_rows rows (advance at t (frames_due fs rest_due))) t (had fs e t)
    closed rows ds fs e t same agrees = over log log rows ds (e ∷ frames_depths fs) (advance at t (frames_due fs rest_due)) t (had fs e t) same agrees

    -- the same, after an entry that makes no row
    unmade : (rows : List Row) (ds : List ℕ) (fs : Frames) (e : ℕ) (t : Tok) → notes rows (within site ts log ds) ≡ within site ts log (e ∷ frames_depths fs)
        → at_have fs e t → Turns log ds (after_rows [] (after_rows rows (advance at t (frames_due fs rest_due)))) t (had fs e t)
    unmade rows ds fs e t same agrees = over log log [] ds ds (after_rows rows (advance at t (frames_due fs rest_due))) t (had fs e t) refl
        (closed rows ds fs e t same agrees)

    abbrev loosest : Bool → Infix → A.Answer
    loosest b i = cond b (A.onward (D.Operand ∷ D.Rest (level i + 1) ∷ D.Two (coded_infix i) ∷ D.Rest 0 ∷ [])) (A.passed [])

    -- where all operators go on
    zero_sign : (below : List Due) (p : List ℕ) (i : Infix) (turn : Option (M.Turn counters))
        → Turns log p (A.settled (loosest true i) below (advance at (C.sign i) below)) (C.sign i) turn
        → Turns log p (A.settled (A.operator 0 i) below (advance at (C.sign i) below)) (C.sign i) turn
    zero_sign below p i turn agrees = subst (λ b. Turns log p (A.settled (loosest b i) below (advance at (C.sign i) below)) (C.sign i) turn)
        (sym (above_zero i)) agrees

    left_other : (p : List ℕ) (s : Step) (fs : Frames) (j : Infix) (a e : ℕ) (t : Tok)
        → Turns log p s t (M.finished counters at log base first (M.close counters 0 fs (counters.two j a e)) t)
        → Turns log p s t (M.finished counters at log base first (M.close counters 0 (M.left j a ∷ fs) e) t)
    left_other p s fs j a e t agrees =
        subst (λ b. Turns log p s t
        (M.finished counters at log base first (cond b (M.close counters 0 fs (counters.two j a e)) (record { frames = M.left j a ∷ fs; operand = e })) t))
        (sym (above_zero j)) agrees

    left_sign : (fs : Frames) (j : Infix) (a e : ℕ) (i : Infix) → at_have fs (counters.two j a e) (C.sign i) → at_have (M.left j a ∷ fs) e (C.sign i)
    left_sign fs j a e i agrees = subst (λ b. by b (nat_le (level i) (level j))) (sym (tighter (level j) (level i))) (go (nat_le (level i) (level j)))
      where
        below : List Due
        below = D.Two (coded_infix j) ∷ frames_due fs rest_due

        stopped : M.Closing counters
        stopped = record { frames = M.left j a ∷ fs; operand = e }

        above : M.Closing counters
        above = M.close counters (level i) fs (counters.two j a e)

        by : Bool → Bool → Type 0
        by b c = Turns log (e ∷ a ∷ frames_depths fs)
            (A.settled (cond b (A.onward (D.Operand ∷ D.Rest (level i + 1) ∷ D.Two (coded_infix i) ∷ D.Rest (level j + 1) ∷ [])) (A.passed [])) below
            (advance at (C.sign i) below))
            (C.sign i) (Some (M.still log (M.expr base first (M.with_left i (cond c above stopped)))))

        go : (c : Bool) → by (not c) c
        go true = unmade (R.two (infix_of (coded_infix j)) ∷ []) (e ∷ a ∷ frames_depths fs) fs (counters.two j a e) (C.sign i) refl agrees
        go false = (refl, refl)

    left_question : (fs : Frames) (j : Infix) (a e : ℕ) (span : Span) → at_have fs (counters.two j a e) (C.question span)
        → at_have (M.left j a ∷ fs) e (C.question span)
    left_question fs j a e span agrees =
        subst (λ answer. by answer (nat_le 1 (level j))) (sym (no_question j)) (subst (λ b. by (A.passed []) b) (sym (above_one j))
        (unmade (R.two (infix_of (coded_infix j)) ∷ []) (e ∷ a ∷ frames_depths fs) fs (counters.two j a e) (C.question span) refl agrees))
      where
        below : List Due
        below = D.Two (coded_infix j) ∷ frames_due fs rest_due

        by : A.Answer → Bool → Type 0
        by answer c = Turns log (e ∷ a ∷ frames_depths fs) (A.settled answer below (advance at (C.question span) below)) (C.question span)
            (Some (M.still log (M.expr base first
            (M.with_test span (cond c (M.close counters 1 fs (counters.two j a e)) (record { frames = M.left j a ∷ fs; operand = e }))))))

    else_sign : (fs : Frames) (c : ℕ) (q : Span) (a e : ℕ) (i : Infix) → at_have (M.else_of c q a ∷ fs) e (C.sign i)
    else_sign fs c q a e i =
        subst by (sym (above_none i)) (zero_sign (D.Cond ∷ frames_due fs rest_due) (e ∷ frames_depths (M.else_of c q a ∷ fs)) i (stops false) (refl, refl))
      where
        stops : Bool → Option (M.Turn counters)
        stops b = Some (M.still log
            (M.expr base first (M.with_left i
            (cond b (M.close counters (level i) fs (counters.choose c q a e)) (record { frames = M.else_of c q a ∷ fs; operand = e })))))

        by : Bool → Type 0
        by b = Turns log (e ∷ frames_depths (M.else_of c q a ∷ fs)) (advance at (C.sign i) (frames_due (M.else_of c q a ∷ fs) rest_due)) (C.sign i) (stops b)

    whole_agrees : (e : ℕ) (t : Tok) → Turns log (e ∷ []) (after_rows [] (after_rows (R.whole first ∷ []) (advance at t (base_due base (site_due site))))) t
        (M.finish counters at log base first [] e t)
    whole_agrees e t =
        let told : Seen = counters.saw_expr e first log in
        let s : Step = advance at t (base_due base (site_due site)) in
        over log log [] (e ∷ []) (e ∷ []) (after_rows (R.whole first ∷ []) s) t (M.ended counters at told base e t) refl
        (over log told (R.whole first ∷ []) (e ∷ []) [] s t (M.ended counters at told base e t) refl (ended_agrees told base e t))

    have_agrees : (fs : Frames) (e : ℕ) (t : Tok) → at_have fs e t
    have_agrees [] e (C.sign i) = zero_sign rest_due (e ∷ frames_depths ([])) i (had ([]) e (C.sign i)) (refl, refl)
    have_agrees [] e (C.question span) = (refl, refl)
    have_agrees [] e t = whole_agrees e t
    have_agrees (M.neg ∷ fs) e (C.sign i) = closed (R.neg ∷ []) (e ∷ frames_depths fs) fs (counters.neg e) (C.sign i) refl
        (have_agrees fs (counters.neg e) (C.sign i))
    have_agrees (M.neg ∷ fs) e (C.question span) = closed (R.neg ∷ []) (e ∷ frames_depths fs) fs (counters.neg e) (C.question span) refl
        (have_agrees fs (counters.neg e) (C.question span))
    have_agrees (M.neg ∷ fs) e t = closed (R.neg ∷ []) (e ∷ frames_depths fs) fs (counters.neg e) t refl (have_agrees fs (counters.neg e) t)
    have_agrees (M.isnt ∷ fs) e (C.sign i) = closed (R.isnt ∷ []) (e ∷ frames_depths fs) fs (counters.isnt e) (C.sign i) refl
        (have_agrees fs (counters.isnt e) (C.sign i))
    have_agrees (M.isnt ∷ fs) e (C.question span) = closed (R.isnt ∷ []) (e ∷ frames_depths fs) fs (counters.isnt e) (C.question span) refl
        (have_agrees fs (counters.isnt e) (C.question span))
    have_agrees (M.isnt ∷ fs) e t = closed (R.isnt ∷ []) (e ∷ frames_depths fs) fs (counters.isnt e) t refl (have_agrees fs (counters.isnt e) t)
    have_agrees (M.left j a ∷ fs) e (C.sign i) = left_sign fs j a e i (have_agrees fs (counters.two j a e) (C.sign i))
    have_agrees (M.left j a ∷ fs) e (C.question span) = left_question fs j a e span (have_agrees fs (counters.two j a e) (C.question span))
    have_agrees (M.left j a ∷ fs) e t =
        left_other (e ∷ frames_depths (M.left j a ∷ fs))
        (after_rows [] (after_rows (R.two (infix_of (coded_infix j)) ∷ []) (advance at t (frames_due fs rest_due)))) fs j a e t
        (unmade (R.two (infix_of (coded_infix j)) ∷ []) (e ∷ a ∷ frames_depths fs) fs (counters.two j a e) t refl (have_agrees fs (counters.two j a e) t))
    have_agrees (M.group ∷ fs) e (C.sign i) = zero_sign (D.GroupEnd ∷ frames_due fs rest_due) (e ∷ frames_depths (M.group ∷ fs)) i
        (had (M.group ∷ fs) e (C.sign i)) (refl, refl)
    have_agrees (M.group ∷ fs) e (C.question span) = (refl, refl)
    have_agrees (M.group ∷ fs) e C.right_paren = (refl, refl)
    have_agrees (M.group ∷ fs) e t = tt
    have_agrees (M.index x ∷ fs) e (C.sign i) = zero_sign (D.IndexEnd ∷ frames_due fs rest_due) (e ∷ frames_depths (M.index x ∷ fs)) i
        (had (M.index x ∷ fs) e (C.sign i)) (refl, refl)
    have_agrees (M.index x ∷ fs) e (C.question span) = (refl, refl)
    have_agrees (M.index x ∷ fs) e C.right_paren = (refl, refl)
    have_agrees (M.index x ∷ fs) e t = tt
    have_agrees (M.then_of c q ∷ fs) e (C.sign i) = zero_sign (D.CondColon ∷ frames_due fs rest_due) (e ∷ frames_depths (M.then_of c q ∷ fs)) i
        (had (M.then_of c q ∷ fs) e (C.sign i)) (refl, refl)
    have_agrees (M.then_of c q ∷ fs) e (C.question span) = (refl, refl)
    have_agrees (M.then_of c q ∷ fs) e C.colon = (refl, refl)
    have_agrees (M.then_of c q ∷ fs) e t = tt
    have_agrees (M.else_of c q a ∷ fs) e (C.sign i) = else_sign fs c q a e i
    have_agrees (M.else_of c q a ∷ fs) e (C.question span) = (refl, refl)
    have_agrees (M.else_of c q a ∷ fs) e t =
        unmade (R.choose ∷ []) (e ∷ a ∷ c ∷ frames_depths fs) fs (counters.choose c q a e) t refl (have_agrees fs (counters.choose c q a e) t)

    abbrev at_inner : M.Inner counters → Tok → Type 0
    at_inner inner t = Turns log (inner_depths inner) (advance at t (inner_due inner rest_due)) t (M.expr_move counters at log base first inner t)

    name_agrees : (fs : Frames) (i : Ident) (t : Tok) → at_inner (M.named fs i) t
    name_agrees fs i C.dot = (refl, refl)
    name_agrees fs i C.left_paren = (refl, refl)
    name_agrees fs i t = closed (R.own ∷ []) (frames_depths fs) fs (counters.own i) t refl (have_agrees fs (counters.own i) t)

    inner_agrees : (inner : M.Inner counters) (t : Tok) → at_inner inner t
    inner_agrees (M.want fs) (C.number z) = (refl, refl)
    inner_agrees (M.want fs) C.eoi_word = (refl, refl)
    inner_agrees (M.want fs) (C.name i) = (refl, refl)
    inner_agrees (M.want fs) C.left_paren = (refl, refl)
    inner_agrees (M.want fs) (C.sign (C.op Sub)) = (refl, refl)
    inner_agrees (M.want fs) C.bang = (refl, refl)
    inner_agrees (M.want fs) t = tt
    inner_agrees (M.have fs e) t = have_agrees fs e t
    inner_agrees (M.named fs i) t = name_agrees fs i t
    inner_agrees (M.dotted fs i) (C.name n) = (refl, refl)
    inner_agrees (M.dotted fs i) C.start_word = (refl, refl)
    inner_agrees (M.dotted fs i) C.end_word = (refl, refl)
    inner_agrees (M.dotted fs i) t = tt
    inner_agrees (M.indexed fs i e) C.dot = (refl, refl)
    inner_agrees (M.indexed fs i e) t = tt
    inner_agrees (M.index_dotted fs i e) (C.name n) = (refl, refl)
    inner_agrees (M.index_dotted fs i e) C.start_word = (refl, refl)
    inner_agrees (M.index_dotted fs i e) C.end_word = (refl, refl)
    inner_agrees (M.index_dotted fs i e) t = tt

  -- ---- terms

  part_agrees : (log : Seen) (p : M.Part counters) (t : Tok)
      → Turns log (part_depths p) (advance at t (part_due p (site_due site))) t (M.part_move counters at log p t)
  part_agrees log (M.slot_named u w span) t = slot_agrees log u w span t
  part_agrees log (M.expr base first inner) t = inner_agrees log base first inner t
  part_agrees log M.set_open (C.name x) = (refl, refl)
  part_agrees log M.set_open t = tt
  part_agrees log (M.set_named x) C.equals = (refl, refl)
  part_agrees log (M.set_named x) t = tt
  part_agrees log (M.test_open span) C.left_paren = (refl, refl)
  part_agrees log (M.test_open span) t = tt
  part_agrees log M.repeat_open (C.name x) = (refl, refl)
  part_agrees log M.repeat_open t = tt
  part_agrees log (M.repeat_named x) C.equals = (refl, refl)
  part_agrees log (M.repeat_named x) t = tt
  part_agrees log (M.item_due x a b) (C.name i) = (refl, refl)
  part_agrees log (M.item_due x a b) t = tt
  part_agrees log (M.item_named x a b i) C.left_bracket = (refl, refl)
  part_agrees log (M.item_named x a b i) t = tt
  part_agrees log (M.many_open span) (C.name i) = (refl, refl)
  part_agrees log (M.many_open span) t = tt
  part_agrees log (M.many_named span i) t = many_agrees log span i t
  part_agrees log (M.pick_open span) C.left_brace = (refl, refl)
  part_agrees log (M.pick_open span) t = tt
  part_agrees log (M.first_case span) C.case_word = (refl, refl)
  part_agrees log (M.first_case span) t = tt
  part_agrees log (M.next_case span cs) t = cases_agree log span t
  part_agrees log (M.case_open span cs) C.left_paren = (refl, refl)
  part_agrees log (M.case_open span cs) t = tt
  part_agrees log (M.slot_due u) t = opening_agrees log u t
  part_agrees log (M.pick_close span cs s) t = pick_agrees log span t

-- ---- all positions

pub move_agrees : (at : ℕ) (log : Seen) (pos : M.Pos counters) (t : Tok)
    → Agrees (counts_at log pos) (advance at t (pos_due pos)) (M.move counters at log pos t)
move_agrees at log M.start (C.name i) = (refl, refl)
move_agrees at log M.start t = tt
move_agrees at log (M.between rs) (C.name i) = (refl, refl)
move_agrees at log (M.between rs) t = tt
move_agrees at log (M.rule_named rs i) C.arrow = (refl, refl)
move_agrees at log (M.rule_named rs i) t = tt
move_agrees at log (M.local_named h ts ls i) C.arrow = (refl, refl)
move_agrees at log (M.local_named h ts ls i) t = tt
move_agrees at log (M.before_term site) t = first_agrees at log site t
move_agrees at log (M.in_term site ts p) t = part_agrees at site ts log p t
move_agrees at log (M.after_term site ts) t = tail_agrees at log site ts t
move_agrees at log (M.where_named h ts) C.left_brace = (refl, refl)
move_agrees at log (M.where_named h ts) t = tt
move_agrees at log (M.before_local h ts) (C.name i) = (refl, refl)
move_agrees at log (M.before_local h ts) t = tt
move_agrees at log (M.after_local h ts ls) (C.name i) = (refl, refl)
move_agrees at log (M.after_local h ts ls) C.right_brace = (refl, refl)
move_agrees at log (M.after_local h ts ls) t = tt
move_agrees at log (M.after_where h) (C.sign (C.op Div)) = (refl, refl)
move_agrees at log (M.after_where h) C.semicolon = (refl, refl)
move_agrees at log (M.after_where h) t = tt
