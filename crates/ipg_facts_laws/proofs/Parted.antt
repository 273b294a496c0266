-- A solution of a joint gives one of each part.
use Rattle.std.proofs.Common.{◌≡◌, ℕ, zero, suc, ◌+◌, ◌<◌, true, List, [], ◌∷◌, ◌++◌, map, length, refl, sym, ap, subst, ◌∙◌, arith, ℤ, Some, drop, take}
use Rattle.std.specs.Prelude.{slice_get, flat_map, ◌≤ℤ◌}
use Rattle.std.proofs.lemmas.Bool.{and_parts}
use Rattle.std.proofs.lemmas.List.{length-drop}
use Rattle.ipg_lin.specs.Form.{Assignment}
use Rattle.ipg_lin.specs.Formula.{holds_at, every, LiesIn}
use Rattle.ipg_lin.specs.declared.formula.Formula.{Formula}
use Rattle.ipg_lin.specs.declared.formula.Formula.TheVariants as formula
use Rattle.ipg_lin.specs.declared.formula.Boxed.{Boxed}
use Rattle.ipg_facts_forms.specs.Joint.{moved, parts_apart, own_variables, joint}
use Rattle.ipg_facts_laws.specs.Laws.{AllSolved, ArePartsWith, JointSolvesParts}
use Rattle.ipg_facts_laws.proofs.Joints.{is_apart, own_bound, holds_all, is_true, truly}

got_left : {X : Type 0} (xs ys : List X) (k : ℕ) (x : X) → slice_get xs k ≡ Some x → slice_get (xs ++ ys) k ≡ Some x
got_left [] ys k x e = absurd (cc)
got_left (y ∷ xs) ys zero x e = e
got_left (y ∷ xs) ys (suc k) x e = got_left xs ys k x e

got_right : {X : Type 0} (xs ys : List X) (k n : ℕ) → n ≡ length xs + k → slice_get (xs ++ ys) n ≡ slice_get ys k
got_right [] ys k n e = ap (slice_get ys) (let same : n ≡ k = omega arith in same)
got_right (x ∷ xs) ys k zero e = absurd (omega arith)
got_right (x ∷ xs) ys k (suc n) e = got_right xs ys k n (omega arith)

abbrev bounds_behind : List (Formula × Boxed) → List (ℤ × ℤ)
bounds_behind parts = flat_map (λ part. drop 1 part.1.bounds) parts

module _ (values : Assignment) (b : ℤ × ℤ) (first : (b.0 ≤ℤ values 0) × (values 0 ≤ℤ b.1)) where
  -- the values of variables behind n others are in their bounds
  Lie : ℕ → List (ℤ × ℤ) → Type 0
  Lie n bounds = (y : ℕ) (low high : ℤ) → slice_get bounds y ≡ Some (low, high) → (low ≤ℤ values (suc y + n)) × (values (suc y + n) ≤ℤ high)

  abbrev own : ℕ → Assignment
  own n x = values (moved n x)

  abbrev IsIn : ℤ → ℤ × ℤ → Type 0
  IsIn z c = (c.0 ≤ℤ z) × (z ≤ℤ c.1)

  lies_own : (n : ℕ) (part : Formula × Boxed) (rest : List (ℤ × ℤ)) → slice_get part.1.bounds 0 ≡ Some b → Lie n (drop 1 part.1.bounds ++ rest)
      → LiesIn (own n) part.1
  unfolding Lie
  lies_own n part rest is h zero low high e = let same : b ≡ (low, high) = cc in subst (IsIn (values 0)) same first
  lies_own n part rest is h (suc y) low high e =
      h y low high (got_left (drop 1 part.1.bounds) rest y (low, high) (own_bound part.1.bounds y ∙ e))

  lies_rest : (n : ℕ) (part : Formula × Boxed) (rest : List (ℤ × ℤ)) → Lie n (drop 1 part.1.bounds ++ rest) → Lie (n + own_variables part) rest
  unfolding Lie
  lies_rest n part rest h y low high e =
      let k : ℕ = own_variables part in
      let size : length (drop 1 part.1.bounds) ≡ k = length-drop 1 part.1.bounds in
      let at : suc (k + y) + n ≡ suc y + (n + k) = omega arith in
      subst (λ i. IsIn (values i) (low, high)) at
      (h (k + y) low high (got_right (drop 1 part.1.bounds) rest y (k + y) (omega (arith, size)) ∙ e))

  parts_solved : (n : ℕ) (parts : List (Formula × Boxed)) → ArePartsWith b parts → every (map (holds_at values) (parts_apart n parts)) ≡ true
      → Lie n (bounds_behind parts) → AllSolved (values 0) parts
  parts_solved n [] are holds lie = tt
  parts_solved n (part ∷ parts) are holds lie =
      let tests = and_parts _ _ holds in
      let mine : holds_at (own n) part.0 ≡ true = sym ((is_apart part.0).apart_holds n values) ∙ tests.0 in (
        (are.0.0, (own n, (lies_own n part (bounds_behind parts) are.0.1 lie, truly _ mine), refl)),
        parts_solved (n + own_variables part) parts are.1 tests.1 (lies_rest n part (bounds_behind parts) lie),
      )

first_bound : (b : ℤ × ℤ) (bounds rest : List (ℤ × ℤ)) → slice_get bounds 0 ≡ Some b → slice_get (take 1 bounds ++ rest) 0 ≡ Some b
first_bound b [] rest e = absurd (cc)
first_bound b (c ∷ bounds) rest e = e

rest_bound : (bounds rest : List (ℤ × ℤ)) (y : ℕ) → 0 < length bounds → slice_get (take 1 bounds ++ rest) (suc y) ≡ slice_get rest y
rest_bound [] rest y some = absurd (omega arith)
rest_bound (c ∷ bounds) rest y some = refl

pub joint_solves_parts : JointSolvesParts
unfolding joint Lie
joint_solves_parts [] b are values solves = tt
joint_solves_parts (part ∷ parts) b are values solves =
    let apart : List Formula = parts_apart 0 (part ∷ parts) in
    let holds : every (map (holds_at values) apart) ≡ true =
    sym (ap (holds_at values) (sym (formula.rolls-All apart)) ∙ holds_all values apart) ∙ is_true _ solves.1 in
    let first = solves.0 0 b.0 b.1 (first_bound b part.1.bounds (bounds_behind (part ∷ parts)) are.0.1) in
    parts_solved values b first 0 (part ∷ parts) are holds
    (λ y low high e.
    let at : suc y + 0 ≡ suc y = omega arith in
    subst (λ i. (low ≤ℤ values i) × (values i ≤ℤ high)) (sym at)
    (solves.0 (suc y) low high (rest_bound part.1.bounds (bounds_behind (part ∷ parts)) y are.0.0.first ∙ e)))
