-- The first of several that is false.
use Rattle.std.proofs.Common.{◌≡◌, ℕ, suc, ◌+◌, List, [], ◌∷◌, ◌++◌, length, Bool, true, false, refl, ap, ◌∙◌, arith, Option, Some, None}
use Rattle.std.specs.Prelude.{IsTrue, MatchOption}
use Rattle.std.specs.List.{AllByRecursion}
use Rattle.ipg_core.specs.Grammar.{Grammar}
use Rattle.ipg_core.specs.MustTouch.{Marks, AreLimit}
use Rattle.ipg_proof.specs.declared.certificate.Certificate.{Certificate}
use Rattle.ipg_proof.specs.Calls.{calls_of, checked}
use Rattle.ipg_proof.specs.Proves.{first_false, AreChecked, IsUnsound}

none_some : {at : ℕ} → ◌≡◌ {A = Option ℕ} None (Some at) → ⊥
none_some e = cc

some_none : {at : ℕ} → ◌≡◌ {A = Option ℕ} (Some at) None → ⊥
some_none e = cc

pub first_some : (n at : ℕ) (xs ys : List Bool) → first_false n xs ≡ Some at → first_false n (xs ++ ys) ≡ Some at
first_some n at [] ys e = absurd (none_some e)
first_some n at (true ∷ xs) ys e = first_some (n + 1) at xs ys e
first_some n at (false ∷ xs) ys e = e

pub first_none : (n : ℕ) (xs ys : List Bool) → first_false n xs ≡ None → first_false n (xs ++ ys) ≡ first_false (n + length xs) ys
first_none n [] ys e = ap (λ k. first_false k ys) (let f : n ≡ n + 0 = omega arith in f)
first_none n (true ∷ xs) ys e = first_none (n + 1) xs ys e ∙ ap (λ k. first_false k ys) (let f : n + 1 + length xs ≡ n + suc (length xs) = omega arith in f)
first_none n (false ∷ xs) ys e = absurd (some_none e)

-- where none is, all are true
pub all_true : (n : ℕ) (xs : List Bool) → first_false n xs ≡ None → AllByRecursion IsTrue xs
all_true n [] e = tt
all_true n (true ∷ xs) e = (refl, all_true (n + 1) xs e)
all_true n (false ∷ xs) e = absurd (some_none e)

pub told : (g : Grammar) (c : Certificate) (marks : Marks) → AreLimit g marks → (at : Option ℕ) → first_false 0 (checked (calls_of g marks) c) ≡ at
    → MatchOption at (AreChecked g c) (λ n. IsUnsound g c n)
told g c marks limit None e = record { marks = marks; limit = limit; all = all_true 0 (checked (calls_of g marks) c) e }
told g c marks limit (Some at) e = record { marks = marks; limit = limit; first = e }
