-- The counters hold the first limit that a grammar passes.
use Rattle.std.proofs.Common.{◌≡◌, ℕ, ◌+◌, ◌<◌, ◌≤◌, min, max, Bool, true, false, cond, nat_lt, List, [], ◌∷◌}
use Rattle.std.proofs.Common.{◌++◌, length, Option, Some, None, refl, ap, ap₂, ◌∙◌, sym, arith, add-zero}
use Rattle.std.proofs.lemmas.Bool.{ltb-true, ltb-false, lt-ltb, le-ltb}
use Rattle.ipg_read_tokens.specs.declared.fault.Which.{Which}
use Rattle.ipg_read_tokens.specs.declared.fault.Which.TheVariants.{Rules, Alternatives, Terms, Depth}
use Rattle.ipg_read_syntax.specs.Written.{ExprTree, num, eoi, own, part, item, group, neg, isnt, two, choose, PlaceTree, anywhere, long, ends, CaseTree}
use Rattle.ipg_read_syntax.specs.Written.{TermTree, slot_term, set_term, test_term, repeat_term, many_term, pick_term, LocalTree, AltTree, RuleTree}
use Rattle.ipg_read_syntax.specs.Written.{spell_expr, spell_case, spell_cases, spell_term, spell_terms, spell_local, spell_alt, spell_rule}
use Rattle.ipg_read_syntax.specs.Limits.{Size, Over, past, depth, limit, is_over, first_over, expr_size, place_sizes, slot_sizes, case_sizes, cases_sizes}
use Rattle.ipg_read_syntax.specs.Limits.{term_sizes, terms_sizes, local_alts_sizes, locals_sizes, alt_sizes, alts_sizes, locals_in, rules_sizes, sizes}
use Rattle.ipg_read_syntax.specs.Counting.{counters, more, Seen, first_kept}
use Rattle.ipg_read_syntax.specs.Making.{expr_by}
use Rattle.ipg_read_syntax.proofs.Logs.{log_expr, log_place, log_slot, log_case, log_cases, log_term, log_terms}
use Rattle.ipg_read_syntax.proofs.Logs.{log_local_alts, log_locals, log_alt, log_alts, log_rules}

-- a count as the counters hold it
abbrev pub capped : Which → ℕ → ℕ
capped w n = min n (limit w + 1)

more_capped : (w : Which) (n : ℕ) → more w (capped w n) ≡ capped w (n + 1)
more_capped w n = omega arith

same_test : (most n : ℕ) → nat_lt most (min n (most + 1)) ≡ nat_lt most n
same_test most n = go (nat_lt most n) refl
  where
    go : (b : Bool) → nat_lt most n ≡ b → nat_lt most (min n (most + 1)) ≡ b
    go true over = lt-ltb most (min n (most + 1)) (let o : most < n = ltb-true most n over in omega arith)
    go false within = le-ltb most (min n (most + 1)) (let o : n ≤ most = ltb-false most n within in omega arith)

kept_capped : (o : Option Over) (w : Which) (n at : ℕ)
    → first_kept o (record { which = w; count = capped w n; at = at }) ≡ first_kept o (record { which = w; count = n; at = at })
kept_capped (Some o) w n at = refl
kept_capped None w n at = ap (λ b. cond b (Some (record { which = w; at = at })) None) (same_test (limit w) n)

depth_capped : (e : ExprTree) → expr_by counters e ≡ capped Depth (depth e)
depth_capped (num z) = refl
depth_capped eoi = refl
depth_capped (own i) = refl
depth_capped (part i f) = refl
depth_capped (item i e f) = ap (more Depth) (depth_capped e) ∙ more_capped Depth (depth e)
depth_capped (group e) = ap (more Depth) (depth_capped e) ∙ more_capped Depth (depth e)
depth_capped (neg e) = ap (more Depth) (depth_capped e) ∙ more_capped Depth (depth e)
depth_capped (isnt e) = ap (more Depth) (depth_capped e) ∙ more_capped Depth (depth e)
depth_capped (two i a b) = ap₂ (λ m n. more Depth (max m n)) (depth_capped a) (depth_capped b) ∙ two_capped (depth a) (depth b)
  where
    two_capped : (m n : ℕ) → more Depth (max (capped Depth m) (capped Depth n)) ≡ capped Depth (max m n + 1)
    two_capped m n = omega arith
depth_capped (choose c at a b) =
    ap (λ k. more Depth (max k (max (expr_by counters a) (expr_by counters b)))) (depth_capped c)
    ∙ ap₂ (λ m n. more Depth (max (capped Depth (depth c)) (max m n))) (depth_capped a) (depth_capped b) ∙ three_capped (depth c) (depth a) (depth b)
  where
    three_capped : (k m n : ℕ) → more Depth (max (capped Depth k) (max (capped Depth m) (capped Depth n))) ≡ capped Depth (max k (max m n) + 1)
    three_capped k m n = omega arith

-- ---- the first of the sizes noted

abbrev pub notes : List Size → Option Over → Option Over
notes [] o = o
notes (z ∷ zs) o = notes zs (first_kept o z)

notes_append : (xs ys : List Size) (o : Option Over) → notes (xs ++ ys) o ≡ notes ys (notes xs o)
notes_append [] ys o = refl
notes_append (x ∷ xs) ys o = notes_append xs ys (first_kept o x)

notes_some : (zs : List Size) (o : Over) → notes zs (Some o) ≡ Some o
notes_some [] o = refl
notes_some (z ∷ zs) o = notes_some zs o

pub notes_first : (zs : List Size) → notes zs None ≡ first_over zs
notes_first [] = refl
notes_first (z ∷ zs) = go (is_over z) (notes_first zs)
  where
    go : (b : Bool) → notes zs None ≡ first_over zs
        → notes zs (cond b (Some (record { which = z.which; at = z.at })) None) ≡ cond b (Some (record { which = z.which; at = z.at })) (first_over zs)
    go true rest = notes_some zs (record { which = z.which; at = z.at })
    go false rest = rest

abbrev seen : ℕ → Option Over → Seen
seen k o = record { rules = k; over = o }

told_expr : (at : ℕ) (e : ExprTree) (k : ℕ) (o : Option Over) → log_expr counters at e (seen k o) ≡ seen k (notes (expr_size at e ∷ []) o)
told_expr at e k o =
    ap (λ d. seen k (first_kept o (record { which = Depth; count = d; at = at }))) (depth_capped e) ∙ ap (seen k) (kept_capped o Depth (depth e) at)

told_place : (at : ℕ) (p : PlaceTree) (k : ℕ) (o : Option Over) → log_place counters at p (seen k o) ≡ seen k (notes (place_sizes at p) o)
told_place at anywhere k o = refl
told_place at (long e) k o = told_expr (at + 1) e k o
told_place at (ends l r) k o =
    ap (log_expr counters (past (at + 1) (spell_expr l) + 1) r) (told_expr (at + 1) l k o)
    ∙ told_expr (past (at + 1) (spell_expr l) + 1) r k (notes (expr_size (at + 1) l ∷ []) o)

told_case : (at : ℕ) (c : CaseTree) (k : ℕ) (o : Option Over) → log_case counters at c (seen k o) ≡ seen k (notes (case_sizes at c) o)
told_case at c k o =
    ap (log_slot counters (past (at + 1 + 1) (spell_expr c.test) + 1) c.slot) (told_expr (at + 1 + 1) c.test k o)
    ∙ told_place (past (at + 1 + 1) (spell_expr c.test) + 1 + 1) c.slot.place k (notes (expr_size (at + 1 + 1) c.test ∷ []) o)

told_cases : (at : ℕ) (cs : List CaseTree) (k : ℕ) (o : Option Over) → log_cases counters at cs (seen k o) ≡ seen k (notes (cases_sizes at cs) o)
told_cases at [] k o = refl
told_cases at (c ∷ cs) k o =
    ap (log_cases counters (past at (spell_case c)) cs) (told_case at c k o)
    ∙ told_cases (past at (spell_case c)) cs k (notes (case_sizes at c) o)
    ∙ ap (seen k) (sym (notes_append (case_sizes at c) (cases_sizes (past at (spell_case c)) cs) o))

told_term : (at : ℕ) (t : TermTree) (k : ℕ) (o : Option Over) → log_term counters at t (seen k o) ≡ seen k (notes (term_sizes at t) o)
told_term at (slot_term s) k o = told_place (at + 1) s.place k o
told_term at (set_term x e) k o = told_expr (at + 1 + 1 + 1) e k o
told_term at (test_term span e) k o = told_expr (at + 1 + 1) e k o
told_term at (repeat_term x a b i l r) k o =
    let from : ℕ = at + 1 + 1 + 1 in
    let second : ℕ = past from (spell_expr a) + 1 in
    let third : ℕ = past second (spell_expr b) + 1 + 1 in
    let seen_a : Option Over = notes (expr_size from a ∷ []) o in
    ap (λ s. log_place counters third (ends l r) (log_expr counters second b s)) (told_expr from a k o)
    ∙ ap (log_place counters third (ends l r)) (told_expr second b k seen_a)
    ∙ told_place third (ends l r) k (notes (expr_size second b ∷ []) seen_a)
told_term at (many_term span i p) k o = told_place (at + 1 + 1) p k o
told_term at (pick_term span cs s) k o =
    let mid : ℕ = past (at + 1 + 1) (spell_cases cs) + 1 in
    ap (log_slot counters mid s) (told_cases (at + 1 + 1) cs k o)
    ∙ told_place (mid + 1) s.place k (notes (cases_sizes (at + 1 + 1) cs) o)
    ∙ ap (seen k) (sym (notes_append (cases_sizes (at + 1 + 1) cs) (slot_sizes mid s) o))

told_terms : (n at : ℕ) (ts : List TermTree) (k : ℕ) (o : Option Over)
    → log_terms counters (capped Terms n) at ts (seen k o) ≡ seen k (notes (terms_sizes n at ts) o)
told_terms n at [] k o = refl
told_terms n at (t ∷ ts) k o =
    let next : ℕ = past at (spell_term t) in
    let kept : Option Over = first_kept o (record { which = Terms; count = n + 1; at = at }) in
    ap₂ (λ m s. log_terms counters m next ts (log_term counters at t s)) (more_capped Terms n)
    (ap (λ m. seen k (first_kept o (record { which = Terms; count = m; at = at }))) (more_capped Terms n) ∙ ap (seen k) (kept_capped o Terms (n + 1) at))
    ∙ ap (log_terms counters (capped Terms (n + 1)) next ts) (told_term at t k kept)
    ∙ told_terms (n + 1) next ts k (notes (term_sizes at t) kept)
    ∙ ap (seen k) (sym (notes_append (term_sizes at t) (terms_sizes (n + 1) next ts) kept))

told_local_alts : (n at : ℕ) (las : List (List TermTree)) (k : ℕ) (o : Option Over)
    → log_local_alts counters (capped Alternatives n) at las (seen k o) ≡ seen k (notes (local_alts_sizes n at las) o)
told_local_alts n at [] k o = refl
told_local_alts n at (ts ∷ las) k o =
    let next : ℕ = past (at + 1) (spell_terms ts) in
    let kept : Option Over = first_kept o (record { which = Alternatives; count = n + 1; at = at + 1 }) in
    ap₂ (λ m s. log_local_alts counters m next las (log_terms counters 0 (at + 1) ts s)) (more_capped Alternatives n)
    (ap (λ m. seen k (first_kept o (record { which = Alternatives; count = m; at = at + 1 }))) (more_capped Alternatives n)
    ∙ ap (seen k) (kept_capped o Alternatives (n + 1) (at + 1)))
    ∙ ap (log_local_alts counters (capped Alternatives (n + 1)) next las) (told_terms 0 (at + 1) ts k kept)
    ∙ told_local_alts (n + 1) next las k (notes (terms_sizes 0 (at + 1) ts) kept)
    ∙ ap (seen k) (sym (notes_append (terms_sizes 0 (at + 1) ts) (local_alts_sizes (n + 1) next las) kept))

-- a rule's head
told_rule : (at k : ℕ) (o : Option Over)
    → counters.saw_rule at (seen (capped Rules k) o) ≡ seen (capped Rules (k + 1)) (first_kept o (record { which = Rules; count = k + 1; at = at }))
told_rule at k o =
    ap (λ m. seen m (first_kept o (record { which = Rules; count = m; at = at }))) (more_capped Rules k)
    ∙ ap (seen (capped Rules (k + 1))) (kept_capped o Rules (k + 1) at)

told_locals : (k at : ℕ) (ls : List LocalTree) (o : Option Over)
    → log_locals counters at ls (seen (capped Rules k) o) ≡ seen (capped Rules (k + length ls)) (notes (locals_sizes k at ls) o)
told_locals k at [] o = ap (λ n. seen (capped Rules n) o) (sym (add-zero k))
told_locals k at (l ∷ ls) o =
    let next : ℕ = past at (spell_local l) in
    let kept : Option Over = first_kept o (record { which = Rules; count = k + 1; at = at }) in
    let told : Option Over = notes (local_alts_sizes 0 (at + 1) l.alts) kept in
    let one_more : k + 1 + length ls ≡ k + length (l ∷ ls) = omega arith in
    ap (λ s. log_locals counters next ls (log_local_alts counters 0 (at + 1) l.alts s)) (told_rule at k o)
    ∙ ap (log_locals counters next ls) (told_local_alts 0 (at + 1) l.alts (capped Rules (k + 1)) kept)
    ∙ told_locals (k + 1) next ls told
    ∙ ap₂ (λ n p. seen (capped Rules n) p) one_more (sym (notes_append (local_alts_sizes 0 (at + 1) l.alts) (locals_sizes (k + 1) next ls) kept))

told_alt : (k at : ℕ) (a : AltTree) (o : Option Over)
    → log_alt counters at a (seen (capped Rules k) o) ≡ seen (capped Rules (k + length a.locals)) (notes (alt_sizes k at a) o)
told_alt k at a o =
    let from : ℕ = past at (spell_terms a.terms) + 1 + 1 in
    ap (log_locals counters from a.locals) (told_terms 0 at a.terms (capped Rules k) o)
    ∙ told_locals k from a.locals (notes (terms_sizes 0 at a.terms) o)
    ∙ ap (seen (capped Rules (k + length a.locals))) (sym (notes_append (terms_sizes 0 at a.terms) (locals_sizes k from a.locals) o))

told_alts : (k n at : ℕ) (alts : List AltTree) (o : Option Over)
    → log_alts counters (capped Alternatives n) at alts (seen (capped Rules k) o) ≡ seen (capped Rules (k + locals_in alts)) (notes (alts_sizes k n at alts) o)
told_alts k n at [] o = ap (λ m. seen (capped Rules m) o) (sym (add-zero k))
told_alts k n at (a ∷ alts) o =
    let next : ℕ = past (at + 1) (spell_alt a) in
    let kept : Option Over = first_kept o (record { which = Alternatives; count = n + 1; at = at + 1 }) in
    let told : Option Over = notes (alt_sizes k (at + 1) a) kept in
    let all_of : k + length a.locals + locals_in alts ≡ k + locals_in (a ∷ alts) = omega arith in
    ap₂ (λ m s. log_alts counters m next alts (log_alt counters (at + 1) a s)) (more_capped Alternatives n)
    (ap (λ m. seen (capped Rules k) (first_kept o (record { which = Alternatives; count = m; at = at + 1 }))) (more_capped Alternatives n)
    ∙ ap (seen (capped Rules k)) (kept_capped o Alternatives (n + 1) (at + 1)))
    ∙ ap (log_alts counters (capped Alternatives (n + 1)) next alts) (told_alt k (at + 1) a kept)
    ∙ told_alts (k + length a.locals) (n + 1) next alts told
    ∙ ap₂ (λ m p. seen (capped Rules m) p) all_of (sym (notes_append (alt_sizes k (at + 1) a) (alts_sizes (k + length a.locals) (n + 1) next alts) kept))

told_rules : (k at : ℕ) (rs : List RuleTree) (o : Option Over) → (log_rules counters at rs (seen (capped Rules k) o)).over ≡ notes (rules_sizes k at rs) o
told_rules k at [] o = refl
told_rules k at (r ∷ rs) o =
    let next : ℕ = past at (spell_rule r) in
    let kept : Option Over = first_kept o (record { which = Rules; count = k + 1; at = at }) in
    let told : Option Over = notes (alts_sizes (k + 1) 0 (at + 1) r.alts) kept in
    ap (λ s. (log_rules counters next rs (log_alts counters 0 (at + 1) r.alts s)).over) (told_rule at k o)
    ∙ ap (λ s. (log_rules counters next rs s).over) (told_alts (k + 1) 0 (at + 1) r.alts kept)
    ∙ told_rules (k + 1 + locals_in r.alts) next rs told
    ∙ sym (notes_append (alts_sizes (k + 1) 0 (at + 1) r.alts) (rules_sizes (k + 1 + locals_in r.alts) next rs) kept)

-- the counters' log after a whole grammar
pub counted : (rs : List RuleTree) → (log_rules counters 0 rs counters.blank).over ≡ first_over (sizes rs)
counted rs = told_rules 0 0 rs None ∙ notes_first (sizes rs)
