-- The halves of a range, by numbers of 64 bits as the code has them.
use Rattle.std.proofs.Common.{◌≡◌, ℕ, ◌<◌, List, length, false, sym, ap, subst, ◌∙◌, arith, ℤ, pos, ◌+ℤ◌, ◌-ℤ◌}
use Rattle.std.specs.Prelude.{◌≤ℤ◌, ◌<ℤ◌}
use Rattle.std.specs.Int.RustNames.{unsigned_abs}
use Rattle.std.proofs.lemmas.Int.{ints}
use lib.Signed.{lt_z}
use mir.Syntax.{w64}
use mir.Val.{SFits}
use Rattle.ipg_lin.specs.Formula.{assigned, Solvable}
use Rattle.ipg_lin.specs.declared.formula.Formula.{Formula}
use Rattle.ipg_lin.specs.declared.formula.Boxed.{Boxed}
use Rattle.ipg_cert.specs.declared.refutation.Refutation.{Refutation}
use Rattle.ipg_solve.specs.declared.decision.Decision.{Decision}
use Rattle.ipg_solve.specs.declared.decision.Decision.TheVariants.{Solution, Refuted}
use Rattle.ipg_solve.specs.Decides.{Solves, Decides, IsExact}
use Rattle.ipg_solve_values.specs.Narrowed.{narrowed}
use Rattle.ipg_solve_values.specs.Halving.{IsLeastRange}
use Rattle.ipg_solve_values.specs.declared.halving.LeastRange.{LeastRange}
use Rattle.ipg_solve_values.proofs.Words.{word, word_is, fits_above}
use Rattle.ipg_solve_values.proofs.HalfRange.{found, found_less, none, never_refuted}

pub not_less : (low high : ℤ) → SFits w64 low → SFits w64 high → lt_z (word low) (word high) ≡ false → high ≤ℤ low
not_less low high f g e = grind (arith, ints)

module _ (f : Formula) (box : Boxed) (x : ℕ) (range : LeastRange) (is : IsLeastRange f box x range) (some : x < length box.bounds) (at : ℤ)
    (low_fits : SFits w64 range.low) (high_fits : SFits w64 range.high) (at_fits : SFits w64 at) (least : word range.low ≤ℤ at) (most : at <ℤ word range.high)
    (lower : Boxed) (made : lower ≡ narrowed box x (word range.low) (word at)) (decision : Decision) where
  from : range.low ≤ℤ at
  from = subst (λ z. z ≤ℤ at) (word_is range.low low_fits) least

  below : at <ℤ range.high
  below = subst (λ z. at <ℤ z) (word_is range.high high_fits) most

  lower_is : lower ≡ narrowed box x range.low at
  lower_is = made ∙ ap (λ z. narrowed box x z (word at)) (word_is range.low low_fits) ∙ ap (narrowed box x range.low) (word_is at at_fits)

  solves : (values : List ℤ) → decision ≡ Solution values → Decides f lower decision → Solves f (narrowed box x range.low at) values
  solves values solved decides = subst (λ b. Solves f b values) lower_is (subst (Decides f lower) solved decides)

  -- a solution in the lower half
  pub range_below : (values : List ℤ) (high : ℤ) → SFits w64 high → high ≡ assigned values x → decision ≡ Solution values → Decides f lower decision
      → IsLeastRange f box x (record { low = word range.low; high = word high; values = values })
  range_below values high fits first solved decides =
      subst (λ z. IsLeastRange f box x (record { low = z; high = word high; values = values })) (sym (word_is range.low low_fits))
      (subst (λ z. IsLeastRange f box x (record { low = range.low; high = z; values = values })) (sym (word_is high fits))
      (found f box x range is some at from below values high first (solves values solved decides)))

  pub less_below : (values : List ℤ) (high : ℤ) → SFits w64 high → high ≡ assigned values x → decision ≡ Solution values → Decides f lower decision
      → unsigned_abs (word high -ℤ word range.low) < unsigned_abs (range.high -ℤ range.low)
  less_below values high fits first solved decides =
      subst (λ z. unsigned_abs (word high -ℤ z) < unsigned_abs (range.high -ℤ range.low)) (sym (word_is range.low low_fits))
      (subst (λ z. unsigned_abs (z -ℤ range.low) < unsigned_abs (range.high -ℤ range.low)) (sym (word_is high fits))
      (found_less f box x range is some at from below values high first (solves values solved decides)))

  -- none
  pub range_above : (r : Refutation) → decision ≡ Refuted r → IsExact f lower decision
      → IsLeastRange f box x (record { low = word (word at +ℤ pos 1); high = word range.high; values = range.values })
  range_above r refuted exact =
      let never = subst (λ b. Solvable f b → ⊥) lower_is (never_refuted f lower r (subst (IsExact f lower) refuted exact)) in
      let next = ap (λ z. word (z +ℤ pos 1)) (word_is at at_fits) ∙ word_is (at +ℤ pos 1) (fits_above at range.high below at_fits high_fits) in
      subst (λ z. IsLeastRange f box x (record { low = z; high = word range.high; values = range.values })) (sym next)
      (subst (λ z. IsLeastRange f box x (record { low = at +ℤ pos 1; high = z; values = range.values })) (sym (word_is range.high high_fits))
      (none f box x range is some at from below never))
