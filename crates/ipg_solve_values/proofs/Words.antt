-- Numbers of 64 bits as the code has them.
use Rattle.std.proofs.Common.{◌≡◌, ℕ, ap, subst, ◌∙◌, arith, Bool, true, false, ℤ, pos, ◌+ℤ◌, ◌-ℤ◌}
use Rattle.std.specs.Bool.{Decides}
use Rattle.std.specs.Prelude.{◌≤ℤ◌, ◌<ℤ◌}
use Rattle.std.proofs.lemmas.Int.{ints, to_z-of_z}
use lib.Signed.{le_z}
use mir.Syntax.{w64}
use mir.Val.{SFits, to_z, of_z}
use Rattle.ipg_lin.specs.Formula.{Solvable}
use Rattle.ipg_lin.specs.declared.formula.Formula.{Formula}
use Rattle.ipg_lin.specs.declared.formula.Boxed.{Boxed}
use Rattle.ipg_solve_values.specs.Narrowed.{narrowed}

abbrev pub word : ℤ → ℤ
word z = to_z w64 (of_z w64 z)

pub word_is : (z : ℤ) → SFits w64 z → word z ≡ z
word_is z fits = to_z-of_z w64 z fits

pub le_words : (y z : ℤ) → SFits w64 y → SFits w64 z → le_z (word y) (word z) ≡ true → y ≤ℤ z
le_words y z f g e = grind (arith, ints)

lt_words : (y z : ℤ) → SFits w64 y → SFits w64 z → le_z (word y) (word z) ≡ false → z <ℤ y
lt_words y z f g e = grind (arith, ints)

fits_below : (low value : ℤ) → low <ℤ value → SFits w64 low → SFits w64 value → SFits w64 (value -ℤ pos 1)
fits_below low value less f g = grind (arith, ints)

pub fits_above : (value high : ℤ) → value <ℤ high → SFits w64 value → SFits w64 high → SFits w64 (value +ℤ pos 1)
fits_above value high less f g = grind (arith, ints)

pub narrowed_words : (box : Boxed) (x : ℕ) (low high : ℤ) → SFits w64 low → SFits w64 high
    → narrowed box x (word low) (word high) ≡ narrowed box x low high
narrowed_words box x low high f g = ap (λ z. narrowed box x z (word high)) (word_is low f) ∙ ap (narrowed box x low) (word_is high g)

module _ (f : Formula) (box : Boxed) (x : ℕ) (value : ℤ) (value_fits : SFits w64 value) (has : Bool) where
  pub lower : (low : ℤ) → SFits w64 low → le_z (word value) (word low) ≡ false
      → Decides has (Solvable f (narrowed box x (word low) (word (word value -ℤ pos 1)))) → Decides has (Solvable f (narrowed box x low (value -ℤ pos 1)))
  lower low fits e asked =
      let next = ap (λ z. word (z -ℤ pos 1)) (word_is value value_fits)
      ∙ word_is (value -ℤ pos 1) (fits_below low value (lt_words value low value_fits fits e) fits value_fits)
      in
      subst (λ b. Decides has (Solvable f b)) (ap (λ z. narrowed box x z (word (word value -ℤ pos 1))) (word_is low fits) ∙ ap (narrowed box x low) next) asked

  pub upper : (high : ℤ) → SFits w64 high → le_z (word high) (word value) ≡ false
      → Decides has (Solvable f (narrowed box x (word (word value +ℤ pos 1)) (word high))) → Decides has (Solvable f (narrowed box x (value +ℤ pos 1) high))
  upper high fits e asked =
      let next = ap (λ z. word (z +ℤ pos 1)) (word_is value value_fits)
      ∙ word_is (value +ℤ pos 1) (fits_above value high (lt_words high value fits value_fits e) value_fits fits)
      in
      subst (λ b. Decides has (Solvable f b)) (ap (λ z. narrowed box x z (word high)) next ∙ ap (narrowed box x (value +ℤ pos 1)) (word_is high fits)) asked
