-- The marks of the limit exist.
use Rattle.std.proofs.Common.{◌≡◌, ℕ, zero, suc, ◌<◌, ◌≤◌, ◌⊎◌, inl, inr, refl, ap, subst, arith, [], ◌∷◌, length, true, false}
use Rattle.std.specs.Prelude.{◌↔◌}
use Rattle.std.proofs.lemmas.List.{length-map}
use Rattle.ipg_core.specs.Grammar.{Grammar}
use Rattle.ipg_core.specs.MustTouch.{Marks, is_marked, round, all_marked, MustTouch, AreLimit}
use Rattle.ipg_app_reply_laws.proofs.Classical.{Somehow, some, ◌>>=◌, by, middle}

-- flags that tell of each number below a bound whether it is so
pub record Tells (P : ℕ → Type 0) (n : ℕ) (marks : Marks) : Type 0 where
  pub size : length marks ≡ n
  pub exact : (r : ℕ) → r < n → (is_marked marks r ≡ true) ↔ P r

told_so : (P : ℕ → Type 0) (n : ℕ) (marks : Marks) → Tells (λ r. P (suc r)) n marks → P zero → (r : ℕ) → r < suc n → (is_marked (true ∷ marks) r ≡ true) ↔ P r
told_so P n marks rest p zero lt = (λ e. p, λ q. refl)
told_so P n marks rest p (suc r) lt = rest.exact r (omega (arith, lt))

told_not : (P : ℕ → Type 0) (n : ℕ) (marks : Marks) → Tells (λ r. P (suc r)) n marks → (P zero → ⊥) → (r : ℕ) → r < suc n
    → (is_marked (false ∷ marks) r ≡ true) ↔ P r
told_not P n marks rest not zero lt = (λ e. absurd (cc), λ q. absurd (not q))
told_not P n marks rest not (suc r) lt = rest.exact r (omega (arith, lt))

pub tell : (P : ℕ → Type 0) (n : ℕ) → Somehow ((marks : Marks) × Tells P n marks)
tell P zero = some ([], record { size = refl; exact = λ r lt. absurd (omega (arith, lt)) })
tell P (suc n) = do
  rest ← tell (λ r. P (suc r)) n
  here ← middle (P zero)
  by here (λ p. some (true ∷ rest.0, record { size = ap suc rest.1.size; exact = told_so P n rest.0 rest.1 p }))
      (λ not. some (false ∷ rest.0, record { size = ap suc rest.1.size; exact = told_not P n rest.0 rest.1 not }))

pub marked_inside : (marks : Marks) (r : ℕ) → is_marked marks r ≡ true → r < length marks
marked_inside [] r e = absurd (cc)
marked_inside (m ∷ marks) zero e = omega arith
marked_inside (m ∷ marks) (suc r) e = let lt = marked_inside marks r e in omega (arith, lt)

-- each round has a mark for each rule
round_size : (g : Grammar) (k : ℕ) → length (round g k) ≡ length g.rules
unfolding round
round_size g zero = length-map g.rules (λ rule. false)
round_size g (suc k) = length-map g.rules (λ rule. all_marked (round g k) rule.alts)

touches_inside : (g : Grammar) (r : ℕ) → MustTouch g r → r < length g.rules
touches_inside g r h = subst (λ n. r < n) (round_size g h.rounds) (marked_inside (round g h.rounds) r h.marked)

pub inside_or : (n r : ℕ) → (r < n) ⊎ (n ≤ r)
inside_or zero r = inr (omega arith)
inside_or (suc n) zero = inl (omega arith)
inside_or (suc n) (suc r) = by (inside_or n r) (λ lt. inl (omega (arith, lt))) (λ le. inr (omega (arith, le)))

exact_all : (g : Grammar) (marks : Marks) → Tells (MustTouch g) (length g.rules) marks → (r : ℕ) → (is_marked marks r ≡ true) ↔ MustTouch g r
exact_all g marks told r =
    by (inside_or (length g.rules) r) (told.exact r) (λ le. (
      λ e. absurd (let lt = marked_inside marks r e in let size = told.size in omega (arith, lt, size, le)),
      λ h. absurd (let lt = touches_inside g r h in omega (arith, lt, le)),
    ))

pub limits : (g : Grammar) → Somehow ((marks : Marks) × AreLimit g marks)
limits g = do
  told ← tell (MustTouch g) (length g.rules)
  some (told.0, record { size = told.1.size; exact = exact_all g told.0 told.1 })
