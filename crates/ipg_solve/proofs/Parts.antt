-- The parts of a box: their facts, their domains and their points.
use Rattle.std.proofs.Common.{◌≡◌, ℕ, zero, suc, ◌+◌, ◌*◌, ◌<◌, ◌≤◌, inl, inr, true, false, cond, ℤ, pos, ◌+ℤ◌, ◌-ℤ◌, List, [], ◌∷◌, ◌++◌, length}
use Rattle.std.proofs.Common.{set, drop, refl, sym, ◌∙◌, ap, subst, arith, length-append, append_assoc}
use Rattle.std.specs.Prelude.{Some, slice_get, ◌≤ℤ◌, ◌<ℤ◌}
use Rattle.std.specs.Int.RustNames.{unsigned_abs}
use Rattle.std.proofs.lemmas.Int.{ints}
use Rattle.std.proofs.lemmas.Bool.{cases_eq}
use Rattle.std.proofs.lemmas.List.{length-set, get_or-set_same, get_or-set_other, drop_at, append-nil}
use Rattle.ipg_lin.specs.declared.formula.Formula.{Formula}
use Rattle.ipg_lin.specs.declared.formula.Boxed.{Boxed}
use Rattle.ipg_cert.specs.Facts.{Fact, at_least, at_most, bound_facts, facts_of}
use Rattle.ipg_cert.specs.Checks.{root_facts}
use Rattle.ipg_solve.specs.declared.domain.Domain.{Domain}
use Rattle.ipg_solve.specs.declared.domain_cut.DomainCut.{DomainCut}
use Rattle.ipg_solve.specs.Domains.{domain_at, no_domain, width_of, points, AreFull}
use Rattle.ipg_solve.specs.Closes.{AreDomains, StandAt}
use Rattle.ipg_solve.specs.Cuts.{start_domains, fact_of_cut, side_of, above, lower, domains_after, facts_after, AreCuts, is_below, work, work_in}
use Rattle.ipg_solve.proofs.Closers.{get_append, get_behind}

-- what holds of each domain, and of the one that is put in, holds of each afterwards
set_each : (P : ℕ → Domain → Type 0) (domains : List Domain) (var : ℕ) (side : Domain) → ((x : ℕ) → x < length domains → P x (domain_at domains x)) → P var side
    → (x : ℕ) → x < length (set domains var side) → P x (domain_at (set domains var side) x)
set_each P domains var side each here x within =
    let n = length-set domains var side in
    elim (cases_eq x var) [
      | inl same ↦ subst (λ k. P k (domain_at (set domains var side) k)) (sym same)
          (subst (P var) (sym (get_or-set_same domains var side no_domain (omega (arith, n)))) here)
      | inr other ↦ subst (P x) (sym (get_or-set_other domains var x side no_domain other)) (each x (omega (arith, n)))
    ]

pub length_after : (first : ℕ) (start : List Domain) (cuts : List DomainCut) → length (domains_after first start cuts) ≡ length start
length_after first start [] = refl
length_after first start (cut ∷ cuts) = length-set (domains_after first start cuts) cut.var (side_of (first + length cuts) cut) ∙ length_after first start cuts

pub facts_length : (root : List Fact) (cuts : List DomainCut) → length (facts_after root cuts) ≡ length root + length cuts
facts_length root [] = omega arith
facts_length root (cut ∷ cuts) = length-append (facts_after root cuts) (fact_of_cut cut ∷ []) ∙ omega (arith, facts_length root cuts)

-- the root's facts stay in front
root_stays : (root : List Fact) (cuts : List DomainCut) → (more : List Fact) × (facts_after root cuts ≡ root ++ more)
root_stays root [] = ([], sym (append-nil root))
root_stays root (cut ∷ cuts) =
    let rest = root_stays root cuts in
    (rest.0 ++ fact_of_cut cut ∷ [], ap (λ fs. fs ++ fact_of_cut cut ∷ []) rest.1 ∙ append_assoc root rest.0 (fact_of_cut cut ∷ []))

-- the ends of the domain stand among the facts
abbrev pub Stands : List Fact → ℕ → Domain → Type 0
Stands facts x domain = (slice_get facts domain.low_at ≡ Some (at_least x domain.low)) × (slice_get facts domain.high_at ≡ Some (at_most x domain.high))

side_stands : (facts : List Fact) (n : ℕ) (cut : DomainCut) → n ≡ length facts → Stands facts cut.var cut.old
    → Stands (facts ++ fact_of_cut cut ∷ []) cut.var (side_of n cut)
side_stands facts n cut e old =
    elim (is_below cut.side) as (λ b. Stands (facts ++ cond b (at_most cut.var cut.at) (at_least cut.var (cut.at +ℤ pos 1)) ∷ []) cut.var
    (cond b (record { low = cut.old.low; low_at = cut.old.low_at; high = cut.at; high_at = n })
    (record { low = cut.at +ℤ pos 1; low_at = n; high = cut.old.high; high_at = cut.old.high_at }))) [
      | true ↦ (
        get_append facts _ _ _ old.0,
        subst (λ k. slice_get (facts ++ at_most cut.var cut.at ∷ []) k ≡ Some (at_most cut.var cut.at)) (sym e)
            (get_behind facts [] (at_most cut.var cut.at)),
      )
      | false ↦ (
        subst (λ k. slice_get (facts ++ at_least cut.var (cut.at +ℤ pos 1) ∷ []) k ≡ Some (at_least cut.var (cut.at +ℤ pos 1))) (sym e)
            (get_behind facts [] (at_least cut.var (cut.at +ℤ pos 1))),
        get_append facts _ _ _ old.1,
      )
    ]

pub domains_hold : (first : ℕ) (root : List Fact) (start : List Domain) (cuts : List DomainCut) → first ≡ length root → AreDomains root start
    → AreCuts first start cuts → AreDomains (facts_after root cuts) (domains_after first start cuts)
domains_hold first root start [] e are cut = are
domains_hold first root start (cut ∷ cuts) e are h =
    let facts = facts_after root cuts in
    let domains = domains_after first start cuts in
    let held : AreDomains facts domains = domains_hold first root start cuts e are h.4 in
    set_each (Stands (facts ++ fact_of_cut cut ∷ [])) domains cut.var (side_of (first + length cuts) cut)
    (λ x within. (get_append facts _ _ _ (held x within).0, get_append facts _ _ _ (held x within).1))
    (side_stands facts (first + length cuts) cut (omega (arith, facts_length root cuts))
    (subst (Stands facts cut.var) h.1 (held cut.var (omega (arith, length_after first start cuts)))))

abbrev IsFull : ℕ → Domain → Type 0
IsFull x domain = domain.low ≤ℤ domain.high

side_full : (n : ℕ) (cut : DomainCut) → cut.old.low ≤ℤ cut.at → cut.at <ℤ cut.old.high → IsFull cut.var (side_of n cut)
side_full n cut low high =
    elim (is_below cut.side) as (λ b. IsFull cut.var (cond b (record { low = cut.old.low; low_at = cut.old.low_at; high = cut.at; high_at = n })
    (record { low = cut.at +ℤ pos 1; low_at = n; high = cut.old.high; high_at = cut.old.high_at }))) [
      | true ↦ low
      | false ↦ omega (arith, ints)
    ]

pub full_after : (first : ℕ) (start : List Domain) (cuts : List DomainCut) → AreFull start → AreCuts first start cuts → AreFull (domains_after first start cuts)
full_after first start [] full h = full
full_after first start (cut ∷ cuts) full h =
    set_each IsFull (domains_after first start cuts) cut.var (side_of (first + length cuts) cut) (full_after first start cuts full h.4)
    (side_full (first + length cuts) cut h.2 h.3)

-- the domain lies in the one that it began as
abbrev pub LiesWithin : List Domain → ℕ → Domain → Type 0
LiesWithin start x domain = ((domain_at start x).low ≤ℤ domain.low) × (domain.high ≤ℤ (domain_at start x).high)

side_within : (start : List Domain) (n : ℕ) (cut : DomainCut) → cut.old.low ≤ℤ cut.at → cut.at <ℤ cut.old.high → LiesWithin start cut.var cut.old
    → LiesWithin start cut.var (side_of n cut)
side_within start n cut low high old =
    elim (is_below cut.side) as (λ b. LiesWithin start cut.var (cond b (record { low = cut.old.low; low_at = cut.old.low_at; high = cut.at; high_at = n })
    (record { low = cut.at +ℤ pos 1; low_at = n; high = cut.old.high; high_at = cut.old.high_at }))) [
      | true ↦ (old.0, omega (arith, ints, old.1))
      | false ↦ (omega (arith, ints, old.0), old.1)
    ]

pub within_after : (first : ℕ) (start : List Domain) (cuts : List DomainCut) → AreCuts first start cuts → (x : ℕ) → x < length (domains_after first start cuts)
    → LiesWithin start x (domain_at (domains_after first start cuts) x)
within_after first start [] h = λ x within. (omega (arith, ints), omega (arith, ints))
within_after first start (cut ∷ cuts) h =
    let domains = domains_after first start cuts in
    let rest : (x : ℕ) → x < length domains → LiesWithin start x (domain_at domains x) = within_after first start cuts h.4 in
    set_each (LiesWithin start) domains cut.var (side_of (first + length cuts) cut) rest
    (side_within start (first + length cuts) cut h.2 h.3 (subst (LiesWithin start cut.var) h.1 (rest cut.var (omega (arith, length_after first start cuts)))))

-- points
pub points_some : (domains : List Domain) → 1 ≤ points domains
points_some [] = omega arith
points_some (domain ∷ domains) = omega (arith, points_some domains)

points_set : (domains : List Domain) (x : ℕ) (a b : Domain) → x < length domains → (width_of a + 1) + (width_of b + 1) ≡ width_of (domain_at domains x) + 1
    → points (set domains x a) + points (set domains x b) ≡ points domains
points_set [] x a b within e = absurd (omega arith)
points_set (domain ∷ domains) zero a b within e = omega (arith, ap (λ n. n * points domains) e)
points_set (domain ∷ domains) (suc x) a b within e = omega (arith, ap (λ n. (width_of domain + 1) * n) (points_set domains x a b (omega arith) e))

halves_width : (low high at : ℤ) → low ≤ℤ at → at <ℤ high
    → (unsigned_abs (at -ℤ low) + 1) + (unsigned_abs (high -ℤ (at +ℤ pos 1)) + 1) ≡ unsigned_abs (high -ℤ low) + 1
halves_width low high at a b = omega (arith, ints)

pub cut_falls : (first : ℕ) (start : List Domain) (cuts : List DomainCut) (x : ℕ) (at : ℤ) → x < length start
    → (domain_at (domains_after first start cuts) x).low ≤ℤ at → at <ℤ (domain_at (domains_after first start cuts) x).high
    → work first start (lower x at (domain_at (domains_after first start cuts) x) ∷ cuts) < work first start cuts
cut_falls first start cuts x at within low high =
    let domains = domains_after first start cuts in
    let cut = lower x at (domain_at domains x) in
    let a = side_of (first + length cuts) cut in
    let b = side_of (first + length cuts) (above cut) in
    omega (
      arith,
      points_set domains x a b (omega (arith, length_after first start cuts)) (halves_width (domain_at domains x).low (domain_at domains x).high at low high),
      points_some (set domains x a),
      points_some (set domains x b),
    )

pub work_some : (domains : List Domain) → 1 ≤ work_in domains
work_some domains = omega (arith, points_some domains)

-- the box
pub start_length : (x : ℕ) (bounds : List (ℤ × ℤ)) → length (start_domains x bounds) ≡ length bounds
start_length x [] = refl
start_length x (b ∷ bounds) = ap suc (start_length (x + 1) bounds)

pub bounds_length : (x : ℕ) (bounds : List (ℤ × ℤ)) → length (bound_facts x bounds) ≡ length bounds + length bounds
bounds_length x [] = refl
bounds_length x (b ∷ bounds) = omega (arith, bounds_length (x + 1) bounds)

pub root_length : (f : Formula) (box : Boxed) → length (root_facts f box) ≡ (length box.bounds + length box.bounds) + length (facts_of f)
root_length f box = length-append (bound_facts 0 box.bounds) (facts_of f) ∙ ap (λ n. n + length (facts_of f)) (bounds_length 0 box.bounds)

abbrev pub start_domain : ℕ → ℤ × ℤ → Domain
start_domain x b = record { low = b.0; low_at = x + x; high = b.1; high_at = x + x + 1 }

pub start_at : (x : ℕ) (bounds : List (ℤ × ℤ)) (k : ℕ) (b : ℤ × ℤ) → slice_get bounds k ≡ Some b → domain_at (start_domains x bounds) k ≡ start_domain (x + k) b
start_at x [] k b e = absurd (cc)
start_at x (c ∷ bounds) zero b e = let same : c ≡ b = cc in ap (start_domain x) same ∙ ap (λ n. start_domain n b) (omega arith)
start_at x (c ∷ bounds) (suc k) b e = start_at (x + 1) bounds k b e ∙ ap (λ n. start_domain n b) (omega arith)

bounds_at : (x : ℕ) (bounds : List (ℤ × ℤ)) (k : ℕ) (b : ℤ × ℤ) → slice_get bounds k ≡ Some b
    → (slice_get (bound_facts x bounds) (k + k) ≡ Some (at_least (x + k) b.0)) × (slice_get (bound_facts x bounds) (suc (k + k)) ≡ Some (at_most (x + k) b.1))
bounds_at x [] k b e = absurd (cc)
bounds_at x (c ∷ bounds) zero b e =
    let same : c ≡ b = cc in (
      ap (λ z. Some (at_least x z.0)) same ∙ ap (λ n. Some (at_least n b.0)) (omega arith),
      ap (λ z. Some (at_most x z.1)) same ∙ ap (λ n. Some (at_most n b.1)) (omega arith),
    )
bounds_at x (c ∷ bounds) (suc k) b e =
    let rest = bounds_at (x + 1) bounds k b e in
    let two : suc k + suc k ≡ suc (suc (k + k)) = omega arith in
    let facts = bound_facts x (c ∷ bounds) in (
      ap (slice_get facts) two ∙ rest.0 ∙ ap (λ n. Some (at_least n b.0)) (omega arith),
      ap (λ n. slice_get facts (suc n)) two ∙ rest.1 ∙ ap (λ n. Some (at_most n b.1)) (omega arith),
    )

some_at : {X : Type 0} (xs : List X) (k : ℕ) → k < length xs → (x : X) × (slice_get xs k ≡ Some x)
some_at [] k h = absurd (omega arith)
some_at (x ∷ xs) zero h = (x, refl)
some_at (x ∷ xs) (suc k) h = some_at xs k (omega arith)

pub start_holds : (f : Formula) (box : Boxed) → AreDomains (root_facts f box) (start_domains 0 box.bounds)
start_holds f box x within =
    let b = some_at box.bounds x (omega (arith, start_length 0 box.bounds)) in
    let is = start_at 0 box.bounds x b.0 b.1 in
    let stand = bounds_at 0 box.bounds x b.0 b.1 in
    let zero_x : 0 + x ≡ x = omega arith in
    let low : slice_get (root_facts f box) (x + x) ≡ Some (at_least x b.0.0) = get_append (bound_facts 0 box.bounds) (facts_of f) _ _
    (stand.0 ∙ ap (λ n. Some (at_least n b.0.0)) zero_x) in
    let high : slice_get (root_facts f box) (suc (x + x)) ≡ Some (at_most x b.0.1) = get_append (bound_facts 0 box.bounds) (facts_of f) _ _
    (stand.1 ∙ ap (λ n. Some (at_most n b.0.1)) zero_x) in
    subst (Stands (root_facts f box) x) (sym is) (
      ap (slice_get (root_facts f box)) (omega arith) ∙ low,
      ap (slice_get (root_facts f box)) (omega arith) ∙ high,
    )

-- the formula's facts stand behind the bounds
pub formula_stands : (f : Formula) (box : Boxed) (cuts : List DomainCut) (n : ℕ) → n ≡ length box.bounds + length box.bounds
    → StandAt n (facts_of f) (facts_after (root_facts f box) cuts)
formula_stands f box cuts n e =
    let rest = root_stays (root_facts f box) cuts in (
      rest.0,
      ap (drop n) (rest.1 ∙ append_assoc (bound_facts 0 box.bounds) (facts_of f) rest.0) ∙ drop_at (bound_facts 0 box.bounds) (facts_of f ++ rest.0) n
          (bounds_length 0 box.bounds ∙ sym e),
    )
