-- The sizes of a grammar stand in the order of their tokens.
use Rattle.std.proofs.Common.{◌≡◌, ℕ, ◌+◌, ◌≤◌, ◌<◌, append_assoc, List, [], ◌∷◌, ◌++◌, length, Bool, true, false, cond}
use Rattle.std.proofs.Common.{Option, Some, None, refl, ap, ◌∙◌, sym, subst, arith, le_refl, le_trans, true≢false}
use Rattle.std.specs.List.{AllByRecursion}
use Rattle.ipg_read_syntax.specs.Classes.{Tok, name, question, comma, equals, arrow, semicolon, left_paren, right_paren, right_bracket, left_brace}
use Rattle.ipg_read_syntax.specs.Classes.{right_brace, for_word, to_word, do_word, switch_word, else_word, many_word, slash}
use Rattle.ipg_read_syntax.specs.Written.{Toks, ExprTree, PlaceTree, anywhere, long, ends, SlotTree, CaseTree, TermTree, slot_term, set_term, test_term}
use Rattle.ipg_read_syntax.specs.Written.{repeat_term, many_term, pick_term, LocalTree, AltTree, RuleTree, what_tok, spell_expr, spell_place, spell_slot}
use Rattle.ipg_read_syntax.specs.Written.{spell_case, spell_cases, spell_term, spell_terms, spell_local_alts, spell_local, spell_locals, spell_where}
use Rattle.ipg_read_syntax.specs.Written.{spell_alt, spell_alts, spell_rule, spell, Each, TermsFit, LocalFits, AltFits, RuleFits, Fits}
use Rattle.ipg_read_syntax.specs.Limits.{Size, Over, past, is_over, first_over, expr_size, place_sizes, slot_sizes, case_sizes, cases_sizes, term_sizes}
use Rattle.ipg_read_syntax.specs.Limits.{terms_sizes, local_alts_sizes, locals_sizes, alt_sizes, alts_sizes, locals_in, rules_sizes, sizes}
use Rattle.ipg_read_syntax.proofs.TakesExprs.{past_append}
use Rattle.ipg_read_syntax.proofs.Lasts.{some_each}
use Rattle.std.proofs.lemmas.Option.{none-some}

-- from one token on the tokens of the sizes do not fall, and stay below another
abbrev Rising : ℕ → List Size → ℕ → Type 0
Rising low [] high = low ≤ high
Rising low (z ∷ zs) high = (low ≤ z.at) × (z.at < high) × Rising z.at zs high

rising_low : (low mid : ℕ) (zs : List Size) (high : ℕ) → low ≤ mid → Rising mid zs high → Rising low zs high
rising_low low mid [] high less rising = le_trans less rising
rising_low low mid (z ∷ zs) high less rising = (le_trans less rising.0, rising.1, rising.2)

rising_high : (low : ℕ) (zs : List Size) (mid high : ℕ) → mid ≤ high → Rising low zs mid → Rising low zs high
rising_high low [] mid high less rising = le_trans rising less
rising_high low (z ∷ zs) mid high less rising = (rising.0, le_trans rising.1 less, rising_high z.at zs mid high less rising.2)

rising_ends : (low : ℕ) (zs : List Size) (high : ℕ) → Rising low zs high → low ≤ high
rising_ends low [] high rising = rising
rising_ends low (z ∷ zs) high rising = le_trans rising.0 (rising_ends z.at zs high rising.2)

rising_append : (low : ℕ) (xs : List Size) (mid : ℕ) (ys : List Size) (high : ℕ) → Rising low xs mid → Rising mid ys high → Rising low (xs ++ ys) high
rising_append low [] mid ys high first rest = rising_low low mid ys high first rest
rising_append low (x ∷ xs) mid ys high first rest =
    (first.0, le_trans first.1 (rising_ends mid ys high rest), rising_append x.at xs mid ys high first.2 rest)

past_rises : (at : ℕ) (ts : Toks) → at ≤ past at ts
past_rises at [] = le_refl at
past_rises at (t ∷ ts) = le_trans (let less : at ≤ at + 1 = omega arith in less) (past_rises (at + 1) ts)

pub past_length : (at : ℕ) (ts : Toks) → past at ts ≡ at + length ts
past_length at [] = omega arith
past_length at (t ∷ ts) = omega (arith, past_length (at + 1) ts)

-- after a whole expression and a token
expr_rises : (at : ℕ) (e : ExprTree) (t : Tok) (tail : Toks) (zs : List Size) → Rising (past at (spell_expr e) + 1) zs (past (past at (spell_expr e) + 1) tail)
    → Rising at (expr_size at e ∷ zs) (past at (spell_expr e ++ (t ∷ tail)))
expr_rises at e t tail zs rest =
    let mid : ℕ = past at (spell_expr e) in
    let high : past at (spell_expr e ++ (t ∷ tail)) ≡ past (mid + 1) tail = past_append at (spell_expr e) (t ∷ tail) in (
      le_refl at,
      (let less : at < past at (spell_expr e ++ (t ∷ tail)) = omega (arith, past_rises at (spell_expr e), past_rises (mid + 1) tail, high) in less),
      rising_low at (mid + 1) zs (past at (spell_expr e ++ (t ∷ tail))) (let less : at ≤ mid + 1 = omega (arith, past_rises at (spell_expr e)) in less)
          (subst (Rising (mid + 1) zs) (sym high) rest),
    )

one_on : (at : ℕ) → at ≤ at + 1
one_on at = omega arith

-- a token begins what is spelled
begins : (at : ℕ) (t : Tok) (ts : Toks) → at < past at (t ∷ ts)
begins at t ts = omega (arith, past_rises (at + 1) ts)

place_rises : (at : ℕ) (p : PlaceTree) → Rising at (place_sizes at p) (past at (spell_place p))
place_rises at anywhere = le_refl at
place_rises at (long e) = rising_low at (at + 1) (place_sizes at (long e)) (past at (spell_place (long e))) (one_on at)
    (expr_rises (at + 1) e right_bracket [] [] (le_refl (past (at + 1) (spell_expr e) + 1)))
place_rises at (ends l r) =
    let mid : ℕ = past (at + 1) (spell_expr l) + 1 in
    rising_low at (at + 1) (place_sizes at (ends l r)) (past at (spell_place (ends l r))) (one_on at)
    (expr_rises (at + 1) l comma (spell_expr r ++ (right_bracket ∷ [])) (expr_size mid r ∷ [])
    (expr_rises mid r right_bracket [] [] (le_refl (past mid (spell_expr r) + 1))))

slot_rises : (at : ℕ) (s : SlotTree) → Rising at (slot_sizes at s) (past at (spell_slot s))
slot_rises at s = rising_low at (at + 1) (slot_sizes at s) (past at (spell_slot s)) (one_on at) (place_rises (at + 1) s.place)

case_rises : (at : ℕ) (c : CaseTree) → Rising at (case_sizes at c) (past at (spell_case c))
case_rises at c =
    let mid : ℕ = past (at + 1 + 1) (spell_expr c.test) + 1 in
    rising_low at (at + 1 + 1) (case_sizes at c) (past at (spell_case c)) (let less : at ≤ at + 1 + 1 = omega arith in less)
    (expr_rises (at + 1 + 1) c.test right_paren (spell_slot c.slot) (slot_sizes mid c.slot) (slot_rises mid c.slot))

cases_rise : (at : ℕ) (cs : List CaseTree) → Rising at (cases_sizes at cs) (past at (spell_cases cs))
cases_rise at [] = le_refl at
cases_rise at (c ∷ cs) =
    let next : ℕ = past at (spell_case c) in
    subst (Rising at (cases_sizes at (c ∷ cs))) (sym (past_append at (spell_case c) (spell_cases cs)))
    (rising_append at (case_sizes at c) next (cases_sizes next cs) (past next (spell_cases cs)) (case_rises at c) (cases_rise next cs))

term_rises : (at : ℕ) (t : TermTree) → Rising at (term_sizes at t) (past at (spell_term t))
term_rises at (slot_term s) = slot_rises at s
term_rises at (set_term x e) =
    let from : ℕ = at + 1 + 1 + 1 in
    rising_low at from (expr_size from e ∷ []) (past at (spell_term (set_term x e))) (let less : at ≤ at + 1 + 1 + 1 = omega arith in less)
    (expr_rises from e right_brace [] [] (le_refl (past from (spell_expr e) + 1)))
term_rises at (test_term span e) =
    let from : ℕ = at + 1 + 1 in
    rising_low at from (expr_size from e ∷ []) (past at (spell_term (test_term span e))) (let less : at ≤ at + 1 + 1 = omega arith in less)
    (expr_rises from e right_paren [] [] (le_refl (past from (spell_expr e) + 1)))
term_rises at (repeat_term x a b i l r) =
    let from : ℕ = at + 1 + 1 + 1 in
    let second : ℕ = past from (spell_expr a) + 1 in
    let third : ℕ = past second (spell_expr b) + 1 + 1 in
    let last : List Size = place_sizes third (ends l r) in
    rising_low at from (term_sizes at (repeat_term x a b i l r)) (past at (spell_term (repeat_term x a b i l r)))
    (let less : at ≤ at + 1 + 1 + 1 = omega arith in less)
    (expr_rises from a to_word (spell_expr b ++ (do_word ∷ name i ∷ spell_place (ends l r))) (expr_size second b ∷ last)
    (expr_rises second b do_word (name i ∷ spell_place (ends l r)) last
    (rising_low (past second (spell_expr b) + 1) third last (past third (spell_place (ends l r))) (one_on (past second (spell_expr b) + 1))
    (place_rises third (ends l r)))))
term_rises at (many_term span i p) =
    rising_low at (at + 1 + 1) (place_sizes (at + 1 + 1) p) (past at (spell_term (many_term span i p))) (let less : at ≤ at + 1 + 1 = omega arith in less)
    (place_rises (at + 1 + 1) p)
term_rises at (pick_term span cs s) =
    let from : ℕ = at + 1 + 1 in
    let mid : ℕ = past from (spell_cases cs) in
    rising_low at from (term_sizes at (pick_term span cs s)) (past at (spell_term (pick_term span cs s))) (let less : at ≤ at + 1 + 1 = omega arith in less)
    (subst (Rising from (term_sizes at (pick_term span cs s)))
    (sym (past_append from (spell_cases cs) (else_word ∷ (spell_slot s ++ (right_brace ∷ []))) ∙ past_append (mid + 1) (spell_slot s) (right_brace ∷ [])))
    (rising_append from (cases_sizes from cs) mid (slot_sizes (mid + 1) s) (past (mid + 1) (spell_slot s) + 1) (cases_rise from cs)
    (rising_low mid (mid + 1) (slot_sizes (mid + 1) s) (past (mid + 1) (spell_slot s) + 1) (one_on mid)
    (rising_high (mid + 1) (slot_sizes (mid + 1) s) (past (mid + 1) (spell_slot s)) (past (mid + 1) (spell_slot s) + 1) (one_on (past (mid + 1) (spell_slot s)))
    (slot_rises (mid + 1) s)))))

-- a term has a token
term_begins : (at : ℕ) (t : TermTree) (rest : Toks) → at < past at (spell_term t ++ rest)
term_begins at (slot_term s) rest = begins at (what_tok s.what s.span) (spell_place s.place ++ rest)
term_begins at (set_term x e) rest = begins at left_brace (name x ∷ equals ∷ ((spell_expr e ++ (right_brace ∷ [])) ++ rest))
term_begins at (test_term span e) rest = begins at (question span) (left_paren ∷ ((spell_expr e ++ (right_paren ∷ [])) ++ rest))
term_begins at (repeat_term x a b i l r) rest =
    begins at for_word (name x ∷ equals ∷ ((spell_expr a ++ (to_word ∷ (spell_expr b ++ (do_word ∷ name i ∷ spell_place (ends l r))))) ++ rest))
term_begins at (many_term span i p) rest = begins at (many_word span) (name i ∷ (spell_place p ++ rest))
term_begins at (pick_term span cs s) rest =
    begins at (switch_word span) (left_brace ∷ ((spell_cases cs ++ (else_word ∷ (spell_slot s ++ (right_brace ∷ [])))) ++ rest))

terms_rise : (n at : ℕ) (ts : List TermTree) → Rising at (terms_sizes n at ts) (past at (spell_terms ts))
terms_rise n at [] = le_refl at
terms_rise n at (t ∷ ts) =
    let next : ℕ = past at (spell_term t) in (
      le_refl at,
      term_begins at t (spell_terms ts),
      subst (Rising at (term_sizes at t ++ terms_sizes (n + 1) next ts)) (sym (past_append at (spell_term t) (spell_terms ts)))
          (rising_append at (term_sizes at t) next (terms_sizes (n + 1) next ts) (past next (spell_terms ts)) (term_rises at t) (terms_rise (n + 1) next ts)),
    )

terms_begin : (at : ℕ) (ts : List TermTree) (rest : Toks) → TermsFit ts → at < past at (spell_terms ts ++ rest)
terms_begin at [] rest fits = absurd fits
terms_begin at (t ∷ ts) rest fits = subst (λ toks. at < past at toks) (sym (append_assoc (spell_term t) (spell_terms ts) rest))
    (term_begins at t (spell_terms ts ++ rest))

-- from the mark on
local_alts_rise : (n at : ℕ) (m : Tok) (las : List (List TermTree)) → Each TermsFit las
    → Rising at (local_alts_sizes n at las) (past at (spell_local_alts m las))
local_alts_rise n at m [] fits = le_refl at
local_alts_rise n at m (ts ∷ las) fits =
    let next : ℕ = past (at + 1) (spell_terms ts) in (
      one_on at,
      terms_begin (at + 1) ts (spell_local_alts slash las) fits.0,
      subst (Rising (at + 1) (terms_sizes 0 (at + 1) ts ++ local_alts_sizes (n + 1) next las))
          (sym (past_append (at + 1) (spell_terms ts) (spell_local_alts slash las)))
          (rising_append (at + 1) (terms_sizes 0 (at + 1) ts) next (local_alts_sizes (n + 1) next las) (past next (spell_local_alts slash las))
          (terms_rise 0 (at + 1) ts) (local_alts_rise (n + 1) next slash las fits.1)),
    )

-- up to the token after some, and one more
and_one : (low at : ℕ) (zs : List Size) (ts : Toks) (t : Tok) → Rising low zs (past at ts) → Rising low zs (past at (ts ++ (t ∷ [])))
and_one low at zs ts t rising = subst (Rising low zs) (sym (past_append at ts (t ∷ [])))
    (rising_high low zs (past at ts) (past at ts + 1) (one_on (past at ts)) rising)

local_rises : (at : ℕ) (l : LocalTree) → LocalFits l → Rising at (local_alts_sizes 0 (at + 1) l.alts) (past at (spell_local l))
local_rises at l fits =
    rising_low at (at + 1) (local_alts_sizes 0 (at + 1) l.alts) (past at (spell_local l)) (one_on at)
    (and_one (at + 1) (at + 1) (local_alts_sizes 0 (at + 1) l.alts) (spell_local_alts arrow l.alts) semicolon
    (local_alts_rise 0 (at + 1) arrow l.alts (some_each TermsFit l.alts fits)))

locals_rise : (k at : ℕ) (ls : List LocalTree) → Each LocalFits ls → Rising at (locals_sizes k at ls) (past at (spell_locals ls))
locals_rise k at [] fits = le_refl at
locals_rise k at (l ∷ ls) fits =
    let next : ℕ = past at (spell_local l) in
    let first : List Size = local_alts_sizes 0 (at + 1) l.alts in (
      le_refl at,
      begins at (name l.head) ((spell_local_alts arrow l.alts ++ (semicolon ∷ [])) ++ spell_locals ls),
      subst (Rising at (first ++ locals_sizes (k + 1) next ls)) (sym (past_append at (spell_local l) (spell_locals ls)))
          (rising_append at first next (locals_sizes (k + 1) next ls) (past next (spell_locals ls)) (local_rises at l fits.0)
          (locals_rise (k + 1) next ls fits.1)),
    )

where_rises : (k at : ℕ) (ls : List LocalTree) → Each LocalFits ls → Rising at (locals_sizes k (at + 1 + 1) ls) (past at (spell_where ls))
where_rises k at [] fits = le_refl at
where_rises k at (l ∷ ls) fits =
    rising_low at (at + 1 + 1) (locals_sizes k (at + 1 + 1) (l ∷ ls)) (past at (spell_where (l ∷ ls))) (let less : at ≤ at + 1 + 1 = omega arith in less)
    (and_one (at + 1 + 1) (at + 1 + 1) (locals_sizes k (at + 1 + 1) (l ∷ ls)) (spell_locals (l ∷ ls)) right_brace (locals_rise k (at + 1 + 1) (l ∷ ls) fits))

alt_rises : (k at : ℕ) (a : AltTree) → AltFits a → Rising at (alt_sizes k at a) (past at (spell_alt a))
alt_rises k at a fits =
    let mid : ℕ = past at (spell_terms a.terms) in
    subst (Rising at (alt_sizes k at a)) (sym (past_append at (spell_terms a.terms) (spell_where a.locals)))
    (rising_append at (terms_sizes 0 at a.terms) mid (locals_sizes k (mid + 1 + 1) a.locals) (past mid (spell_where a.locals)) (terms_rise 0 at a.terms)
    (where_rises k mid a.locals fits.1))

alts_rise : (k n at : ℕ) (m : Tok) (alts : List AltTree) → Each AltFits alts → Rising at (alts_sizes k n at alts) (past at (spell_alts m alts))
alts_rise k n at m [] fits = le_refl at
alts_rise k n at m (a ∷ alts) fits =
    let next : ℕ = past (at + 1) (spell_alt a) in
    let later : ℕ = k + length a.locals in
    let first_token : at + 1 < past (at + 1) (spell_alt a ++ spell_alts slash alts) =
    subst (λ toks. at + 1 < past (at + 1) toks) (sym (append_assoc (spell_terms a.terms) (spell_where a.locals) (spell_alts slash alts)))
    (terms_begin (at + 1) a.terms (spell_where a.locals ++ spell_alts slash alts) fits.0.0) in (
      one_on at,
      first_token,
      subst (Rising (at + 1) (alt_sizes k (at + 1) a ++ alts_sizes later (n + 1) next alts)) (sym (past_append (at + 1) (spell_alt a) (spell_alts slash alts)))
          (rising_append (at + 1) (alt_sizes k (at + 1) a) next (alts_sizes later (n + 1) next alts) (past next (spell_alts slash alts))
          (alt_rises k (at + 1) a fits.0)
          (alts_rise later (n + 1) next slash alts fits.1)),
    )

rules_rise : (k at : ℕ) (rs : List RuleTree) → Each RuleFits rs → Rising at (rules_sizes k at rs) (past at (spell rs))
rules_rise k at [] fits = le_refl at
rules_rise k at (r ∷ rs) fits =
    let next : ℕ = past at (spell_rule r) in
    let later : ℕ = k + 1 + locals_in r.alts in
    let first : List Size = alts_sizes (k + 1) 0 (at + 1) r.alts in (
      le_refl at,
      begins at (name r.head) ((spell_alts arrow r.alts ++ (semicolon ∷ [])) ++ spell rs),
      subst (Rising at (first ++ rules_sizes later next rs)) (sym (past_append at (spell_rule r) (spell rs)))
          (rising_append at first next (rules_sizes later next rs) (past next (spell rs))
          (rising_low at (at + 1) first next (one_on at)
          (and_one (at + 1) (at + 1) first (spell_alts arrow r.alts) semicolon (alts_rise (k + 1) 0 (at + 1) arrow r.alts (some_each AltFits r.alts fits.0))))
          (rules_rise later next rs fits.1)),
    )

-- ---- the first is the least

all_above : (low : ℕ) (zs : List Size) (high : ℕ) → Rising low zs high → AllByRecursion (λ z. low ≤ z.at) zs
all_above low [] high rising = tt
all_above low (z ∷ zs) high rising = (rising.0, higher zs (all_above z.at zs high rising.2))
  where
    higher : (ys : List Size) → AllByRecursion (λ y. z.at ≤ y.at) ys → AllByRecursion (λ y. low ≤ y.at) ys
    higher [] all = tt
    higher (y ∷ ys) all = (le_trans rising.0 all.0, higher ys all.1)

abbrev pub NotBefore : ℕ → Size → Type 0
NotBefore at z = is_over z ≡ true → at ≤ z.at

over_least : (low : ℕ) (zs : List Size) (high : ℕ) (o : Over) → Rising low zs high → first_over zs ≡ Some o → AllByRecursion (NotBefore o.at) zs
over_least low [] high o rising first = tt
over_least low (z ∷ zs) high o rising first = go (is_over z) refl first (λ rest. over_least z.at zs high o rising.2 rest)
  where
    same_at : (ys : List Size) (at : ℕ) → z.at ≡ at → AllByRecursion (λ y. z.at ≤ y.at) ys → AllByRecursion (NotBefore at) ys
    same_at [] at is all = tt
    same_at (y ∷ ys) at is all = (λ over. subst (λ n. n ≤ y.at) is all.0, same_at ys at is all.1)

    place_in : Option Over → ℕ → ℕ
    place_in (Some x) n = x.at
    place_in None n = n

    go : (b : Bool) → is_over z ≡ b → cond b (Some (record { which = z.which; at = z.at })) (first_over zs) ≡ Some o
        → (first_over zs ≡ Some o → AllByRecursion (NotBefore o.at) zs) → AllByRecursion (NotBefore o.at) (z ∷ zs)
    go true is here rest =
        let at : z.at ≡ o.at = ap (λ x. place_in x 0) here in
        (λ over. subst (λ n. n ≤ z.at) at (le_refl z.at), same_at zs o.at at (all_above z.at zs high rising.2))
    go false is here rest = (λ over. absurd (true≢false (sym over ∙ is)), rest here)

-- and one of the tokens
over_there : (low : ℕ) (zs : List Size) (high : ℕ) (o : Over) → Rising low zs high → first_over zs ≡ Some o → o.at < high
over_there low [] high o rising first = absurd (none-some o first)
over_there low (z ∷ zs) high o rising first = go (is_over z) first (λ rest. over_there z.at zs high o rising.2 rest)
  where
    place_in : Option Over → ℕ → ℕ
    place_in (Some x) n = x.at
    place_in None n = n

    go : (b : Bool) → cond b (Some (record { which = z.which; at = z.at })) (first_over zs) ≡ Some o → (first_over zs ≡ Some o → o.at < high) → o.at < high
    go true here rest = subst (λ n. n < high) (ap (λ x. place_in x 0) here) rising.1
    go false here rest = rest here

module _ (rs : List RuleTree) (fits : Fits rs) (o : Over) (first : first_over (sizes rs) ≡ Some o) where
  rise : Rising 0 (sizes rs) (past 0 (spell rs))
  rise = rules_rise 0 0 rs (some_each RuleFits rs fits)

  pub first_least : AllByRecursion (NotBefore o.at) (sizes rs)
  first_least = over_least 0 (sizes rs) (past 0 (spell rs)) o rise first

  pub first_there : o.at < length (spell rs)
  first_there = let there : o.at < past 0 (spell rs) = over_there 0 (sizes rs) (past 0 (spell rs)) o rise first in omega
      (arith, there, past_length 0 (spell rs))
