-- Whether a name is among those that were read, one by one.
use Rattle.std.proofs.Common.{◌≡◌, ℕ, ◌+◌, ◌<◌, sym, ap, ◌∙◌, List, drop, length, true, false, add-one, drop-cons, get_or}
use Rattle.std.specs.Prelude.{◌||◌}
use Rattle.ipg_mach_failures.specs.declared.values.Operand.{Operand}
use Rattle.ipg_mach_failures.specs.declared.values.Valued.{Valued}
use Rattle.ipg_mach_failures.specs.Values.{same_operand, is_among}

module _ (values : List Valued) (i : ℕ) (operand : Operand) (none : Valued) (inside : i < length values)
    (same : is_among values operand ≡ is_among (drop i values) operand) where
  abbrev one : Operand
  one = (get_or values i none).operand

  by_one : is_among values operand ≡ same_operand one operand || is_among (drop (i + 1) values) operand
  by_one = same
      ∙ ap (λ l. is_among l operand) (drop-cons values i none inside)
      ∙ ap (λ n. same_operand one operand || is_among (drop n values) operand) (sym (add-one i))

  pub is_one : same_operand one operand ≡ true → is_among values operand ≡ true
  is_one e = by_one ∙ ap (λ b. b || is_among (drop (i + 1) values) operand) e

  pub is_later : same_operand one operand ≡ false → is_among values operand ≡ is_among (drop (i + 1) values) operand
  is_later e = by_one ∙ ap (λ b. b || is_among (drop (i + 1) values) operand) e
