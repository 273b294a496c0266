-- Terms have an order or get stuck.
use Rattle.std.proofs.Common.{◌≡◌, ℕ, zero, suc, ◌+◌, ◌<◌, ◌≤◌, ◌⊎◌, ◌||◌, inl, inr, refl, sym, ap, ◌∙◌, arith, List, [], ◌∷◌, Bool, true, false}
use Rattle.std.specs.Prelude.{nat_eq}
use Rattle.std.proofs.lemmas.Bool.Decides.{nat_tests}
use Rattle.ipg_core.specs.Order.{is_taken, IsProvided, IsNext, InOrder}
use Rattle.ipg_order.specs.Stuck.{IsEnd, EndsAt}
use Rattle.ipg_app_reply_laws.proofs.Classical.{Somehow, some, ◌>>=◌, by, below, First, first_below, NoneBelow}

-- ---- how many are left

abbrev one_where_false : Bool → ℕ
one_where_false true = 0
one_where_false false = 1

abbrev left : List ℕ → ℕ → ℕ
left taken zero = 0
left taken (suc n) = left taken n + one_where_false (is_taken taken n)

fewer : (a b : Bool) → one_where_false (a || b) ≤ one_where_false b
fewer true true = omega arith
fewer true false = omega arith
fewer false b = omega arith

left_less : (u : ℕ) (taken : List ℕ) (n : ℕ) → left (u ∷ taken) n ≤ left taken n
left_less u taken zero = omega arith
left_less u taken (suc n) =
    let rest = left_less u taken n in
    let here = fewer (nat_eq u n) (is_taken taken n) in
    omega (arith, rest, here)

same_is : (u v : ℕ) → u ≡ v → nat_eq u v ≡ true
same_is u v e = grind (arith, nat_tests)

left_falls : (u : ℕ) (taken : List ℕ) (n : ℕ) → u < n → is_taken taken u ≡ false → left (u ∷ taken) n < left taken n
left_falls u taken zero lt fresh = absurd (omega (arith, lt))
left_falls u taken (suc n) lt fresh =
    by (below n u lt)
    (λ less.
    let rest = left_falls u taken n less fresh in
    let here = fewer (nat_eq u n) (is_taken taken n) in
    omega (arith, rest, here))
    (λ e.
    let rest = left_less u taken n in
    let gone : one_where_false (is_taken (u ∷ taken) n) ≡ 0 = ap (λ b. one_where_false (b || is_taken taken n)) (same_is u n e) in
    let there : one_where_false (is_taken taken n) ≡ 1 = ap one_where_false (ap (is_taken taken) (sym e) ∙ fresh) in
    omega (arith, rest, gone, there))

-- ---- one term after another

not_false : (b : Bool) → (b ≡ false → ⊥) → b ≡ true
not_false true h = refl
not_false false h = absurd (h refl)

module _ (provides : ℕ → ℕ → Type 0) (n : ℕ) where
  abbrev pub Arranged : List ℕ → Type 0
  Arranged taken = ((order : List ℕ) × InOrder provides n taken order) ⊎ ((order : List ℕ) × (u : ℕ) × EndsAt provides n taken order u)

  abbrev IsReady : List ℕ → ℕ → Type 0
  IsReady taken u = (is_taken taken u ≡ false) × IsProvided provides taken u

  next_of : (taken : List ℕ) (f : First (IsReady taken)) → f.at < n → IsNext provides n taken f.at
  next_of taken f lt = record {
    below = lt;
    fresh = f.holds.0;
    provided = f.holds.1;
    least = λ w less fresh provided. f.before w less (fresh, provided);
  }

  end_of : (taken : List ℕ) → NoneBelow (IsReady taken) n → (f : First (λ u. is_taken taken u ≡ false)) → f.at < n → IsEnd provides n taken f.at
  end_of taken none f lt = record {
    below = lt;
    fresh = f.holds;
    least = λ w less. not_false (is_taken taken w) (f.before w less);
    none_next = λ w next. none w next.below (next.fresh, next.provided);
  }

  one_more : (taken : List ℕ) (u : ℕ) → IsNext provides n taken u → Arranged (u ∷ taken) → Arranged taken
  one_more taken u next (inl a) = inl (u ∷ a.0, (next, a.1))
  one_more taken u next (inr a) = inr (u ∷ a.0, a.1, (next, a.2))

  at_end : (taken : List ℕ) → NoneBelow (IsReady taken) n → Somehow (Arranged taken)
  at_end taken none = do
    free ← first_below (λ u. is_taken taken u ≡ false) n
    some (by free (λ f. inr ([], f.0.at, end_of taken none f.0 f.1)) (λ all. inl ([], λ u lt. not_false (is_taken taken u) (all u lt))))

  pub arrange : (fuel : ℕ) (taken : List ℕ) → left taken n ≤ fuel → Somehow (Arranged taken)
  arrange zero taken enough = do
    ready ← first_below (IsReady taken) n
    by ready (λ f. absurd (let less = left_falls f.0.at taken n f.1 f.0.holds.0 in omega (arith, less, enough))) (at_end taken)
  arrange (suc fuel) taken enough = do
    ready ← first_below (IsReady taken) n
    by ready (λ f. do
      rest ← arrange fuel (f.0.at ∷ taken) (let less = left_falls f.0.at taken n f.1 f.0.holds.0 in omega (arith, less, enough))
      some (one_more taken f.0.at (next_of taken f.0 f.1) rest)) (at_end taken)

  pub arranged : Somehow (Arranged [])
  arranged = arrange (left [] n) [] (omega arith)
