-- What can't be missing: cases on what can't be decided are free for it.
use Rattle.std.proofs.Common.{◌≡◌, ℕ, zero, suc, ◌<◌, ◌⊎◌, inl, inr, refl, sym, ap, subst, arith}

-- it can't be that there is none
abbrev pub Somehow : Type 0 → Type 0
Somehow A = (A → ⊥) → ⊥

pub some : {A : Type 0} → A → Somehow A
some a none = none a

infixl 10 ◌>>=◌
pub ◌>>=◌ : {A B : Type 0} → Somehow A → (A → Somehow B) → Somehow B
(a >>= next) none = a (λ x. next x none)

pub by : {A B C : Type 0} → A ⊎ B → (A → C) → (B → C) → C
by (inl a) f g = f a
by (inr b) f g = g b

-- it is so or it isn't
pub middle : (A : Type 0) → Somehow (A ⊎ (A → ⊥))
middle A none = none (inr (λ a. none (inl a)))

-- what isn't not so is so
pub not_not : {A : Type 0} → ((A → ⊥) → ⊥) → Somehow A
not_not a = a

-- ---- numbers below a bound

pub below : (n i : ℕ) → i < suc n → (i < n) ⊎ (i ≡ n)
below zero zero lt = inr refl
below zero (suc i) lt = absurd (omega (arith, lt))
below (suc n) zero lt = inl (omega arith)
below (suc n) (suc i) lt = by (below n i (omega (arith, lt))) (λ less. inl (omega (arith, less))) (λ e. inr (ap suc e))

-- a choice for each number below a bound
pub each_below : (P : ℕ → Type 0) (n : ℕ) → ((i : ℕ) → i < n → Somehow (P i)) → Somehow ((i : ℕ) → i < n → P i)
each_below P zero f = some (λ i lt. absurd (omega (arith, lt)))
each_below P (suc n) f = do
  those ← each_below P n (λ i lt. f i (omega (arith, lt)))
  last ← f n (omega arith)
  some (λ i lt. by (below n i lt) (those i) (λ e. subst P (sym e) last))

-- the first number of which it is so
pub record First (P : ℕ → Type 0) : Type 0 where
  pub at : ℕ
  pub holds : P at
  pub before : (i : ℕ) → i < at → P i → ⊥

abbrev pub NoneBelow : (ℕ → Type 0) → ℕ → Type 0
NoneBelow P n = (i : ℕ) → i < n → P i → ⊥

none_more : (P : ℕ → Type 0) (n : ℕ) → NoneBelow P n → (P n → ⊥) → NoneBelow P (suc n)
none_more P n none not i lt p = by (below n i lt) (λ less. none i less p) (λ e. not (subst P e p))

-- one below the bound is the first of which it is so, or it is so of none
pub first_below : (P : ℕ → Type 0) (n : ℕ) → Somehow (((f : First P) × (f.at < n)) ⊎ NoneBelow P n)
first_below P zero = some (inr (λ i lt p. absurd (omega (arith, lt))))
first_below P (suc n) = do
  found ← first_below P n
  by found (λ f. some (inl (f.0, let lt = f.1 in omega (arith, lt)))) (λ none. do
    here ← middle (P n)
    by here (λ p. some (inl (record { at = n; holds = p; before = none }, omega arith))) (λ not. some (inr (none_more P n none not))))

-- where it is so of a number, there is a first one
pub first_of : (P : ℕ → Type 0) (n : ℕ) → P n → Somehow (First P)
first_of P n p = do
  found ← first_below P (suc n)
  by found (λ f. some f.0) (λ none. absurd (none n (omega arith) p))
