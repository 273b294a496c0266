-- A box in which the length of the part is fixed, and the least gap.
use Rattle.std.proofs.Common.{◌≡◌, ℕ, zero, suc, ◌<◌, List, [], ◌∷◌, length, refl, sym, subst, ◌∙◌, arith, ℤ, Some}
use Rattle.std.specs.Prelude.{slice_get, slice_set, ◌≤ℤ◌}
use Rattle.std.proofs.lemmas.Int.{ints}
use Rattle.ipg_lin.specs.Form.{Assignment}
use Rattle.ipg_lin.specs.Formula.{assigned, Solvable}
use Rattle.ipg_lin.specs.declared.formula.Formula.{Formula}
use Rattle.ipg_lin.specs.declared.formula.Boxed.{Boxed}
use Rattle.ipg_cert.specs.declared.refutation.Refutation.{Refutation}
use Rattle.ipg_cert.specs.Laws.{ChecksRefute}
use Rattle.ipg_solve.specs.declared.decision.Decision.{Decision}
use Rattle.ipg_solve.specs.declared.decision.Decision.TheVariants.{Solution, Refuted}
use Rattle.ipg_solve_values.specs.Least.{IsLeast, Settles}
use Rattle.ipg_cover.specs.Cover.{IsLeastGap}
use Rattle.ipg_cover.specs.Gaps.{IsLeastLength, fixed}

abbrev Lies : Assignment → List (ℤ × ℤ) → Type 0
Lies values bounds = (x : ℕ) (low high : ℤ) → slice_get bounds x ≡ Some (low, high) → (low ≤ℤ values x) × (values x ≤ℤ high)

abbrev IsIn : ℤ → ℤ × ℤ → Type 0
IsIn z bounds = (bounds.0 ≤ℤ z) × (z ≤ℤ bounds.1)

same_bounds : (b c : ℤ × ℤ) → Some b ≡ Some c → b ≡ c
same_bounds b c e = cc

is_in : (z eoi : ℤ) → z ≡ eoi → IsIn z (eoi, eoi)
is_in z eoi e = (omega (arith, ints, e), omega (arith, ints, e))

is_fixed : (z eoi : ℤ) → IsIn z (eoi, eoi) → z ≡ eoi
is_fixed z eoi h = omega (arith, ints, h.0, h.1)

into : (values : Assignment) (bounds : List (ℤ × ℤ)) (eoi : ℤ) → values 0 ≡ eoi → Lies values bounds → Lies values (slice_set bounds 0 (eoi, eoi))
into values [] eoi e lies x low high at = absurd (cc)
into values (b ∷ bounds) eoi e lies zero low high at = subst (IsIn (values 0)) (same_bounds (eoi, eoi) (low, high) at) (is_in (values 0) eoi e)
into values (b ∷ bounds) eoi e lies (suc x) low high at = lies (suc x) low high at

out_of : (values other : Assignment) (bounds : List (ℤ × ℤ)) (eoi : ℤ) → values 0 ≡ other 0 → Lies other bounds → Lies values (slice_set bounds 0 (eoi, eoi))
    → Lies values bounds
out_of values other [] eoi e lies fits x low high at = absurd (cc)
out_of values other (b ∷ bounds) eoi e lies fits zero low high at = subst (λ z. IsIn z (low, high)) (sym e) (lies 0 low high at)
out_of values other (b ∷ bounds) eoi e lies fits (suc x) low high at = fits (suc x) low high at

first_fixed : (values : Assignment) (bounds : List (ℤ × ℤ)) (eoi : ℤ) → 0 < length bounds → Lies values (slice_set bounds 0 (eoi, eoi)) → values 0 ≡ eoi
first_fixed values [] eoi some fits = absurd (omega arith)
first_fixed values (b ∷ bounds) eoi some fits = is_fixed (values 0) eoi (fits 0 eoi eoi refl)

pub size_fixed : (bounds : List (ℤ × ℤ)) (eoi : ℤ) → length (slice_set bounds 0 (eoi, eoi)) ≡ length bounds
size_fixed [] eoi = refl
size_fixed (b ∷ bounds) eoi = refl

module _ (part : Formula × Boxed) (eoi : ℤ) (some : 0 < length part.1.bounds) (length_is : IsLeastLength part eoi) where
  -- the formula has a solution in the fixed box
  pub stays_solvable : Solvable part.0 (fixed part.1 eoi)
  stays_solvable = (length_is.values, into length_is.values part.1.bounds eoi length_is.length_is length_is.solves.0, length_is.solves.1)

  -- the least place there is that of the gap
  pub is_least_gap : (values : List ℤ) → IsLeast part.0 (fixed part.1 eoi) 1 values → IsLeastGap part (assigned values 1) eoi
  is_least_gap values is =
      let here : assigned values 0 ≡ eoi = first_fixed (assigned values) part.1.bounds eoi some is.solves.1 in
      record {
        values = assigned values;
        solves = (out_of (assigned values) length_is.values part.1.bounds eoi (here ∙ sym length_is.length_is) length_is.solves.0 is.solves.1, is.solves.2);
        length_is = here;
        place_is = refl;
        least = length_is.least;
        least_place = λ other solves e. is.least other (into other part.1.bounds eoi e solves.0) solves.1;
      }

-- a solution of which variable 0 is least has the least length
pub is_least_length : (part : Formula × Boxed) (values : List ℤ) → IsLeast part.0 part.1 0 values → IsLeastLength part (assigned values 0)
is_least_length part values is = record {
  values = assigned values;
  solves = (is.solves.1, is.solves.2);
  length_is = refl;
  least = λ other solves. is.least other solves.0 solves.1;
}

-- ---- as the solver answers

module _ (part : Formula × Boxed) (eoi : ℤ) (some : 0 < length part.1.bounds) (length_is : IsLeastLength part eoi) (box : Boxed) (made : box ≡ fixed part.1 eoi)
    (decision : Decision) (settles : Settles part.0 box 1 decision) where
  settles_fixed : Settles part.0 (fixed part.1 eoi) 1 decision
  settles_fixed = subst (λ b. Settles part.0 b 1 decision) made settles

  pub never_refuted : (r : Refutation) → ChecksRefute → decision ≡ Refuted r → ⊥
  never_refuted r refute e =
      refute part.0 (fixed part.1 eoi) r (subst (Settles part.0 (fixed part.1 eoi) 1) e settles_fixed) (stays_solvable part eoi some length_is)

  pub is_gap : (values : List ℤ) (place : ℤ) → decision ≡ Solution values → place ≡ assigned values 1 → IsLeastGap part place eoi
  is_gap values place e is =
      subst (λ z. IsLeastGap part z eoi) (sym is)
      (is_least_gap part eoi some length_is values (subst (Settles part.0 (fixed part.1 eoi) 1) e settles_fixed))

pub is_length : (part : Formula × Boxed) (decision : Decision) (values : List ℤ) (eoi : ℤ) → Settles part.0 part.1 0 decision → decision ≡ Solution values
    → eoi ≡ assigned values 0 → IsLeastLength part eoi
is_length part decision values eoi settles e is =
    subst (IsLeastLength part) (sym is) (is_least_length part values (subst (Settles part.0 part.1 0) e settles))
