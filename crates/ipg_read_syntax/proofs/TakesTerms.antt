-- The machine takes each term.
use Rattle.std.proofs.Common.{◌≡◌, ℕ, ◌+◌, List, [], ◌∷◌, ◌++◌, Some, Bool, true, false, true≢false, refl, ap, ◌∙◌, sym, append_assoc, le_refl, subst}
use Rattle.ipg_ast.specs.declared.grammar.Ident.{Ident}
use Rattle.ipg_ast.specs.declared.grammar.Span.{Span}
use Rattle.ipg_ast.specs.declared.grammar.What.{What}
use Rattle.ipg_ast.specs.declared.grammar.What.TheVariants.{Text, Call}
use Rattle.ipg_read_syntax.specs.Classes.{Tok, name, comma, right_paren, left_bracket, right_bracket, right_brace, to_word, do_word, else_word}
use Rattle.ipg_read_syntax.specs.Written.{Toks, ExprTree, PlaceTree, anywhere, long, ends, SlotTree, CaseTree, TermTree, slot_term, set_term, test_term}
use Rattle.ipg_read_syntax.specs.Written.{repeat_term, many_term, pick_term, what_tok, spell_expr, spell_place, spell_slot, spell_case, spell_cases, spell_term}
use Rattle.ipg_read_syntax.specs.Written.{spell_terms, Stands, PlaceFits, SlotFits, CaseFits, TermFits, TermsFit, Each, SomeEach}
use Rattle.ipg_read_syntax.specs.Limits.{past}
use Rattle.ipg_read_syntax.specs.Machine
use Rattle.ipg_read_syntax.specs.Machine.{Acts, want, have, Base, SlotUse, alone, chosen, other, Site, State, Turn, in_term, after_term, slot_named, slot_due}
use Rattle.ipg_read_syntax.specs.Machine.{next_case, pick_close, expr, turned, onward, slot_done, slot_passed, slot_move, many_move, many_named}
use Rattle.ipg_read_syntax.specs.Machine.{passed, verdict}
use Rattle.ipg_read_syntax.specs.Making.{expr_by, place_by, slot_by, cases_by, term_by, terms_by}
use Rattle.ipg_read_syntax.proofs.Frames.{Ends}
use Rattle.ipg_read_syntax.proofs.TakesExprs.{takes_expr, past_append}
use Rattle.ipg_read_syntax.proofs.Logs.{log_expr, log_place, log_slot, log_case, log_cases, log_term, log_terms}

abbrev pub is_bracket : Tok → Bool
is_bracket left_bracket = true
is_bracket t = false

-- what may follow a slot without an interval
abbrev pub NoBracket : Toks → Type 0
NoBracket [] = Unit {0}
NoBracket (t ∷ rest) = is_bracket t ≡ false

slot_moved : (A : Acts) (at : ℕ) (log : A.Log) (u : SlotUse A) (w : What) (span : Span) (t : Tok) → is_bracket t ≡ false
    → slot_move A at log u w span t ≡ slot_passed A log u (A.slot w span A.anywhere) t
slot_moved A at log u w span left_bracket plain = absurd (true≢false plain)
slot_moved A at log u w span t plain = refl

many_moved : (A : Acts) (at : ℕ) (log : A.Log) (span : Span) (i : Ident) (t : Tok) → is_bracket t ≡ false
    → many_move A at log span i t ≡ Some (passed log (A.many_term span i A.anywhere))
many_moved A at log span i left_bracket plain = absurd (true≢false plain)
many_moved A at log span i t plain = refl

module _ (A : Acts) (site : Site A) (before : A.Terms) where
  abbrev pub part_state : A.Log → Machine.Part A → State A
  part_state log p = record { log = log; pos = in_term site before p }

  abbrev pub term_state : A.Log → A.Term → State A
  term_state log t = record { log = log; pos = after_term site (A.with_term before t) }

  -- where a whole slot leads
  abbrev settled : A.Log → SlotUse A → A.Slot → State A
  settled log alone s = term_state log (A.slot_term s)
  settled log (chosen at cs c) s = part_state log (next_case at (A.with_case cs c s))
  settled log (other at cs) s = part_state log (pick_close at cs s)

  settled_done : (at : ℕ) (log : A.Log) (u : SlotUse A) (s : A.Slot) (t : Tok) (rest : Toks)
      → onward at (turned A at site before t (Some (slot_done A log u s))) (λ next. verdict A (at + 1) next rest) ≡ verdict A (at + 1) (settled log u s) rest
  settled_done at log alone s t rest = refl
  settled_done at log (chosen span cs c) s t rest = refl
  settled_done at log (other span cs) s t rest = refl

  settled_passed : (at : ℕ) (log : A.Log) (u : SlotUse A) (s : A.Slot) (t : Tok) (rest : Toks)
      → onward at (turned A at site before t (slot_passed A log u s t)) (λ next. verdict A (at + 1) next rest) ≡ verdict A at (settled log u s) (t ∷ rest)
  settled_passed at log alone s t rest = refl
  settled_passed at log (chosen span cs c) s t rest = refl
  settled_passed at log (other span cs) s t rest = refl

  settled_end : (at : ℕ) (log : A.Log) (u : SlotUse A) (w : What) (span : Span) (s : A.Slot)
      → verdict A at (part_state log (slot_named u w span)) [] ≡ verdict A at (settled log u s) []
  settled_end at log alone w span s = refl
  settled_end at log (chosen at' cs c) w span s = refl
  settled_end at log (other at' cs) w span s = refl

  -- a whole expression, up to the token that ends it
  expr_then : (log : A.Log) (base : Base A) (e : ExprTree) (at : ℕ) (t : Tok) (tail rest : Toks) → Stands 0 e → Ends 0 t
      → verdict A at (part_state log (expr base at (want []))) ((spell_expr e ++ (t ∷ tail)) ++ rest)
      ≡ verdict A (past at (spell_expr e)) (part_state log (expr base at (have [] (expr_by A e)))) (t ∷ (tail ++ rest))
  expr_then log base e at t tail rest stands closes =
      ap (λ toks. verdict A at (part_state log (expr base at (want []))) toks) (append_assoc (spell_expr e) (t ∷ tail) rest)
      ∙ takes_expr A log site before base at e 0 at [] t (tail ++ rest) stands (le_refl 0) closes

  takes_place : (log : A.Log) (u : SlotUse A) (w : What) (span : Span) (p : PlaceTree) (at : ℕ) (rest : Toks) → PlaceFits p → NoBracket rest
      → verdict A at (part_state log (slot_named u w span)) (spell_place p ++ rest)
      ≡ verdict A (past at (spell_place p)) (settled (log_place A at p log) u (A.slot w span (place_by A p))) rest
  takes_place log u w span anywhere at [] fits plain = settled_end at log u w span (A.slot w span A.anywhere)
  takes_place log u w span anywhere at (t ∷ rest) fits plain =
      ap (λ turn. onward at (turned A at site before t turn) (λ next. verdict A (at + 1) next rest)) (slot_moved A at log u w span t plain)
      ∙ settled_passed at log u (A.slot w span A.anywhere) t rest
  takes_place log u w span (long e) at rest fits plain =
      expr_then log (Machine.length_or_left u w span) e (at + 1) right_bracket [] rest fits (le_refl 0, refl)
      ∙ settled_done (past (at + 1) (spell_expr e)) (log_place A at (long e) log) u (A.slot w span (place_by A (long e))) right_bracket rest
      ∙ ap (λ n. verdict A n (settled (log_place A at (long e) log) u (A.slot w span (place_by A (long e)))) rest)
      (sym (past_append (at + 1) (spell_expr e) (right_bracket ∷ [])))
  takes_place log u w span (ends l r) at rest fits plain =
      let mid : ℕ = past (at + 1) (spell_expr l) in
      let s : A.Slot = A.slot w span (place_by A (ends l r)) in
      let told : A.Log = log_place A at (ends l r) log in
      expr_then log (Machine.length_or_left u w span) l (at + 1) comma (spell_expr r ++ (right_bracket ∷ [])) rest fits.0 (le_refl 0, refl)
      ∙ expr_then (log_expr A (at + 1) l log) (Machine.right_of u w span (expr_by A l)) r (mid + 1) right_bracket [] rest fits.1 (le_refl 0, refl)
      ∙ settled_done (past (mid + 1) (spell_expr r)) told u s right_bracket rest
      ∙ ap (λ n. verdict A n (settled told u s) rest)
      (sym (past_append (at + 1) (spell_expr l) (comma ∷ (spell_expr r ++ (right_bracket ∷ []))) ∙ past_append (mid + 1) (spell_expr r) (right_bracket ∷ [])))

  -- a slot where one is due
  takes_slot : (log : A.Log) (u : SlotUse A) (s : SlotTree) (at : ℕ) (rest : Toks) → SlotFits s → NoBracket rest
      → verdict A at (part_state log (slot_due u)) (spell_slot s ++ rest)
      ≡ verdict A (past at (spell_slot s)) (settled (log_slot A at s log) u (slot_by A s)) rest
  takes_slot log u s at rest fits plain = opened s.what ∙ takes_place log u s.what s.span s.place (at + 1) rest fits plain
    where
      opened : (w : What) → verdict A at (part_state log (slot_due u)) (what_tok w s.span ∷ (spell_place s.place ++ rest))
          ≡ verdict A (at + 1) (part_state log (slot_named u w s.span)) (spell_place s.place ++ rest)
      opened (Text bs) = refl
      opened (Call n) = refl

  takes_case : (log : A.Log) (span : Span) (cs : A.Cases) (c : CaseTree) (at : ℕ) (rest : Toks) → CaseFits c → NoBracket rest
      → verdict A at (part_state log (next_case span cs)) (spell_case c ++ rest)
      ≡ verdict A (past at (spell_case c)) (part_state (log_case A at c log) (next_case span (A.with_case cs (expr_by A c.test) (slot_by A c.slot)))) rest
  takes_case log span cs c at rest fits plain =
      let mid : ℕ = past (at + 1 + 1) (spell_expr c.test) in
      expr_then log (Machine.case_of span cs) c.test (at + 1 + 1) right_paren (spell_slot c.slot) rest fits.0 (le_refl 0, refl)
      ∙ takes_slot (log_expr A (at + 1 + 1) c.test log) (chosen span cs (expr_by A c.test)) c.slot (mid + 1) rest fits.1 plain
      ∙ ap (λ n. verdict A n (part_state (log_case A at c log) (next_case span (A.with_case cs (expr_by A c.test) (slot_by A c.slot)))) rest)
      (sym (past_append (at + 1 + 1) (spell_expr c.test) (right_paren ∷ spell_slot c.slot)))

  plain_cases : (cs : List CaseTree) (rest : Toks) → NoBracket rest → NoBracket (spell_cases cs ++ rest)
  plain_cases [] rest plain = plain
  plain_cases (c ∷ cs) rest plain = refl

  takes_cases : (log : A.Log) (span : Span) (made : A.Cases) (cs : List CaseTree) (at : ℕ) (rest : Toks) → Each CaseFits cs → NoBracket rest
      → verdict A at (part_state log (next_case span made)) (spell_cases cs ++ rest)
      ≡ verdict A (past at (spell_cases cs)) (part_state (log_cases A at cs log) (next_case span (cases_by A made cs))) rest
  takes_cases log span made [] at rest fits plain = refl
  takes_cases log span made (c ∷ cs) at rest fits plain =
      let more : A.Cases = A.with_case made (expr_by A c.test) (slot_by A c.slot) in
      ap (λ toks. verdict A at (part_state log (next_case span made)) toks) (append_assoc (spell_case c) (spell_cases cs) rest)
      ∙ takes_case log span made c at (spell_cases cs ++ rest) fits.0 (plain_cases cs rest plain)
      ∙ takes_cases (log_case A at c log) span more cs (past at (spell_case c)) rest fits.1 plain
      ∙ ap (λ n. verdict A n (part_state (log_cases A at (c ∷ cs) log) (next_case span (cases_by A more cs))) rest)
      (sym (past_append at (spell_case c) (spell_cases cs)))

  first_case_as_next : (log : A.Log) (span : Span) (cs : List CaseTree) (at : ℕ) (rest : Toks) → SomeEach CaseFits cs
      → verdict A at (part_state log (Machine.first_case span)) (spell_cases cs ++ rest)
      ≡ verdict A at (part_state log (next_case span A.no_cases)) (spell_cases cs ++ rest)
  first_case_as_next log span [] at rest fits = absurd fits
  first_case_as_next log span (c ∷ cs) at rest fits = refl

  all_cases : (cs : List CaseTree) → SomeEach CaseFits cs → Each CaseFits cs
  all_cases [] fits = tt
  all_cases (c ∷ cs) fits = fits

  takes_many : (log : A.Log) (span : Span) (i : Ident) (p : PlaceTree) (at : ℕ) (rest : Toks) → PlaceFits p → NoBracket rest
      → verdict A at (part_state log (many_named span i)) (spell_place p ++ rest)
      ≡ verdict A (past at (spell_place p)) (term_state (log_place A at p log) (A.many_term span i (place_by A p))) rest
  takes_many log span i anywhere at [] fits plain = refl
  takes_many log span i anywhere at (t ∷ rest) fits plain =
      ap (λ turn. onward at (turned A at site before t turn) (λ next. verdict A (at + 1) next rest)) (many_moved A at log span i t plain)
  takes_many log span i (long e) at rest fits plain =
      expr_then log (Machine.many_length_or_left span i) e (at + 1) right_bracket [] rest fits (le_refl 0, refl)
      ∙ ap (λ n. verdict A n (term_state (log_place A at (long e) log) (A.many_term span i (place_by A (long e)))) rest)
      (sym (past_append (at + 1) (spell_expr e) (right_bracket ∷ [])))
  takes_many log span i (ends l r) at rest fits plain =
      let mid : ℕ = past (at + 1) (spell_expr l) in
      expr_then log (Machine.many_length_or_left span i) l (at + 1) comma (spell_expr r ++ (right_bracket ∷ [])) rest fits.0 (le_refl 0, refl)
      ∙ expr_then (log_expr A (at + 1) l log) (Machine.many_right span i (expr_by A l)) r (mid + 1) right_bracket [] rest fits.1 (le_refl 0, refl)
      ∙ ap (λ n. verdict A n (term_state (log_place A at (ends l r) log) (A.many_term span i (place_by A (ends l r)))) rest)
      (sym (past_append (at + 1) (spell_expr l) (comma ∷ (spell_expr r ++ (right_bracket ∷ []))) ∙ past_append (mid + 1) (spell_expr r) (right_bracket ∷ [])))

  -- the term's first token was taken where a term may begin
  takes_term : (log : A.Log) (t : TermTree) (at : ℕ) (rest : Toks) → TermFits t → NoBracket rest
      → verdict A at (record { log = log; pos = after_term site before }) (spell_term t ++ rest)
      ≡ verdict A (past at (spell_term t)) (term_state (log_term A at t (A.saw_term before at log)) (term_by A t)) rest
  takes_term log (slot_term s) at rest fits plain = opened s.what ∙ takes_place seen alone s.what s.span s.place (at + 1) rest fits plain
    where
      seen : A.Log
      seen = A.saw_term before at log

      opened : (w : What) → verdict A at (record { log = log; pos = after_term site before }) (what_tok w s.span ∷ (spell_place s.place ++ rest))
          ≡ verdict A (at + 1) (part_state (A.saw_term before at log) (slot_named alone w s.span)) (spell_place s.place ++ rest)
      opened (Text bs) = refl
      opened (Call n) = refl
  takes_term log (set_term x e) at rest fits plain =
      let seen : A.Log = A.saw_term before at log in
      let from : ℕ = at + 1 + 1 + 1 in
      expr_then seen (Machine.value_of x) e from right_brace [] rest fits (le_refl 0, refl)
      ∙ ap (λ n. verdict A n (term_state (log_expr A from e seen) (A.set_term x (expr_by A e))) rest) (sym (past_append from (spell_expr e) (right_brace ∷ [])))
  takes_term log (test_term span e) at rest fits plain =
      let seen : A.Log = A.saw_term before at log in
      let from : ℕ = at + 1 + 1 in
      expr_then seen (Machine.test_of span) e from right_paren [] rest fits (le_refl 0, refl)
      ∙ ap (λ n. verdict A n (term_state (log_expr A from e seen) (A.test_term span (expr_by A e))) rest)
      (sym (past_append from (spell_expr e) (right_paren ∷ [])))
  takes_term log (repeat_term x a b i l r) at rest fits plain =
      let seen : A.Log = A.saw_term before at log in
      let a' : A.Expr = expr_by A a in
      let b' : A.Expr = expr_by A b in
      let l' : A.Expr = expr_by A l in
      let from : ℕ = at + 1 + 1 + 1 in
      let second : ℕ = past from (spell_expr a) + 1 in
      let third : ℕ = past second (spell_expr b) + 1 + 1 + 1 in
      let fourth : ℕ = past third (spell_expr l) + 1 in
      let seen_a : A.Log = log_expr A from a seen in
      let seen_b : A.Log = log_expr A second b seen_a in
      let seen_l : A.Log = log_expr A third l seen_b in
      expr_then seen (Machine.first_bound x) a from to_word (spell_expr b ++ (do_word ∷ name i ∷ spell_place (ends l r))) rest fits.0 (le_refl 0, refl)
      ∙ expr_then seen_a (Machine.last_bound x a') b second do_word (name i ∷ spell_place (ends l r)) rest fits.1 (le_refl 0, refl)
      ∙ expr_then seen_b (Machine.item_left x a' b' i) l third comma (spell_expr r ++ (right_bracket ∷ [])) rest fits.2 (le_refl 0, refl)
      ∙ expr_then seen_l (Machine.item_right x a' b' i l') r fourth right_bracket [] rest fits.3 (le_refl 0, refl)
      ∙ ap (λ n. verdict A n (term_state (log_expr A fourth r seen_l) (A.repeat_term x a' b' i l' (expr_by A r))) rest)
      (sym (past_append from (spell_expr a) (to_word ∷ (spell_expr b ++ (do_word ∷ name i ∷ spell_place (ends l r))))
      ∙ past_append second (spell_expr b) (do_word ∷ name i ∷ spell_place (ends l r))
      ∙ past_append third (spell_expr l) (comma ∷ (spell_expr r ++ (right_bracket ∷ [])))
      ∙ past_append fourth (spell_expr r) (right_bracket ∷ [])))
  takes_term log (many_term span i p) at rest fits plain = takes_many (A.saw_term before at log) span i p (at + 1 + 1) rest fits plain
  takes_term log (pick_term span cs last) at rest fits plain =
      let seen : A.Log = A.saw_term before at log in
      let from : ℕ = at + 1 + 1 in
      let mid : ℕ = past from (spell_cases cs) in
      let told : A.Log = log_cases A from cs seen in
      let cases : A.Cases = cases_by A A.no_cases cs in
      ap (λ toks. verdict A from (part_state seen (Machine.first_case span)) toks)
      (append_assoc (spell_cases cs) (else_word ∷ (spell_slot last ++ (right_brace ∷ []))) rest)
      ∙ first_case_as_next seen span cs from (else_word ∷ ((spell_slot last ++ (right_brace ∷ [])) ++ rest)) fits.0
      ∙ takes_cases seen span A.no_cases cs from (else_word ∷ ((spell_slot last ++ (right_brace ∷ [])) ++ rest)) (all_cases cs fits.0) refl
      ∙ ap (λ toks. verdict A (mid + 1) (part_state told (slot_due (other span cases))) toks) (append_assoc (spell_slot last) (right_brace ∷ []) rest)
      ∙ takes_slot told (other span cases) last (mid + 1) (right_brace ∷ rest) fits.1 refl
      ∙ ap (λ n. verdict A n (term_state (log_slot A (mid + 1) last told) (A.pick_term span cases (slot_by A last))) rest)
      (sym (past_append from (spell_cases cs) (else_word ∷ (spell_slot last ++ (right_brace ∷ [])))
      ∙ past_append (mid + 1) (spell_slot last) (right_brace ∷ [])))

-- a term's first token is none of those that go on after a term, and no `[`
pub plain_term : (t : TermTree) (rest : Toks) → NoBracket (spell_term t ++ rest)
plain_term (slot_term s) rest = plain s.what
  where
    plain : (w : What) → is_bracket (what_tok w s.span) ≡ false
    plain (Text bs) = refl
    plain (Call n) = refl
plain_term (set_term x e) rest = refl
plain_term (test_term span e) rest = refl
plain_term (repeat_term x a b i l r) rest = refl
plain_term (many_term span i p) rest = refl
plain_term (pick_term span cs last) rest = refl

plain_terms : (ts : List TermTree) (rest : Toks) → NoBracket rest → NoBracket (spell_terms ts ++ rest)
plain_terms [] rest plain = plain
plain_terms (t ∷ ts) rest plain = subst NoBracket (sym (append_assoc (spell_term t) (spell_terms ts) rest)) (plain_term t (spell_terms ts ++ rest))

-- the terms of an alternative after some of them
pub takes_terms : (A : Acts) (site : Site A) (log : A.Log) (before : A.Terms) (ts : List TermTree) (at : ℕ) (rest : Toks) → Each TermFits ts → NoBracket rest
    → verdict A at (record { log = log; pos = after_term site before }) (spell_terms ts ++ rest)
    ≡ verdict A (past at (spell_terms ts)) (record { log = log_terms A before at ts log; pos = after_term site (terms_by A before ts) }) rest
takes_terms A site log before [] at rest fits plain = refl
takes_terms A site log before (t ∷ ts) at rest fits plain =
    let more : A.Terms = A.with_term before (term_by A t) in
    ap (λ toks. verdict A at (record { log = log; pos = after_term site before }) toks) (append_assoc (spell_term t) (spell_terms ts) rest)
    ∙ takes_term A site before log t at (spell_terms ts ++ rest) fits.0 (plain_terms ts rest plain)
    ∙ takes_terms A site (log_term A at t (A.saw_term before at log)) more ts (past at (spell_term t)) rest fits.1 plain
    ∙ ap (λ n. verdict A n (record { log = log_terms A before at (t ∷ ts) log; pos = after_term site (terms_by A more ts) }) rest)
    (sym (past_append at (spell_term t) (spell_terms ts)))

first_as_next : (A : Acts) (site : Site A) (log : A.Log) (t : TermTree) (at : ℕ) (rest : Toks)
    → verdict A at (record { log = log; pos = Machine.before_term site }) (spell_term t ++ rest)
    ≡ verdict A at (record { log = Machine.saw_alt_at A site at log; pos = after_term site A.no_terms }) (spell_term t ++ rest)
first_as_next A site log (slot_term s) at rest = opened s.what
  where
    opened : (w : What) → verdict A at (record { log = log; pos = Machine.before_term site }) (what_tok w s.span ∷ (spell_place s.place ++ rest))
        ≡ verdict A at (record { log = Machine.saw_alt_at A site at log; pos = after_term site A.no_terms }) (what_tok w s.span ∷ (spell_place s.place ++ rest))
    opened (Text bs) = refl
    opened (Call n) = refl
first_as_next A site log (set_term x e) at rest = refl
first_as_next A site log (test_term span e) at rest = refl
first_as_next A site log (repeat_term x a b i l r) at rest = refl
first_as_next A site log (many_term span i p) at rest = refl
first_as_next A site log (pick_term span cs last) at rest = refl

-- all terms of an alternative
pub takes_alt_terms : (A : Acts) (site : Site A) (log : A.Log) (ts : List TermTree) (at : ℕ) (rest : Toks) → TermsFit ts → NoBracket rest
    → verdict A at (record { log = log; pos = Machine.before_term site }) (spell_terms ts ++ rest)
    ≡ verdict A (past at (spell_terms ts))
    (record { log = log_terms A A.no_terms at ts (Machine.saw_alt_at A site at log); pos = after_term site (terms_by A A.no_terms ts) }) rest
takes_alt_terms A site log [] at rest fits plain = absurd fits
takes_alt_terms A site log (t ∷ ts) at rest fits plain =
    ap (λ toks. verdict A at (record { log = log; pos = Machine.before_term site }) toks) (append_assoc (spell_term t) (spell_terms ts) rest)
    ∙ first_as_next A site log t at (spell_terms ts ++ rest)
    ∙ ap (λ toks. verdict A at (record { log = Machine.saw_alt_at A site at log; pos = after_term site A.no_terms }) toks)
    (sym (append_assoc (spell_term t) (spell_terms ts) rest))
    ∙ takes_terms A site (Machine.saw_alt_at A site at log) A.no_terms (t ∷ ts) at rest fits plain
