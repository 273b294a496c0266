-- Lesser and greater values of a variable, and one that it has in every solution.
use Rattle.std.proofs.Common.{◌≡◌, ℕ, ◌<◌, get_or, List, length, refl, sym, ap, subst, ◌∙◌, arith}
use Rattle.std.proofs.Common.{Bool, true, false, ℤ, pos, ◌+ℤ◌, ◌-ℤ◌, Option, Some, None}
use Rattle.std.specs.Bool.{Decides}
use Rattle.std.specs.Prelude.{slice_get, int_le, ◌≤ℤ◌, ◌<ℤ◌}
use Rattle.std.proofs.lemmas.Int.{ints}
use Rattle.std.proofs.lemmas.Option.{slice_get-get_or}
use Rattle.ipg_lin.specs.Formula.{assigned, LiesIn, Solvable}
use Rattle.ipg_lin.specs.declared.formula.Formula.{Formula}
use Rattle.ipg_lin.specs.declared.formula.Boxed.{Boxed}
use Rattle.ipg_cert.specs.declared.refutation.Refutation.{Refutation}
use Rattle.ipg_solve.specs.declared.decision.Decision.{Decision}
use Rattle.ipg_solve.specs.declared.decision.Decision.TheVariants.{Solution, Refuted}
use Rattle.ipg_solve.specs.Decides.{Solves, IsExact, is_solution}
use Rattle.ipg_solve_values.specs.Narrowed.{narrowed, IsSolvedAt, IsWithin}
use Rattle.ipg_solve_values.specs.Sure.{Tells}
use Rattle.ipg_solve_values.proofs.OtherBounds.{here, wider, narrower, le_true, le_false}

not_above : (b : Bool) (y z : ℤ) → int_le y z ≡ b → (z <ℤ y → ⊥) → y ≤ℤ z
not_above true y z e above = le_true y z e
not_above false y z e above = absurd (above (le_false y z e))

both : (y z : ℤ) → y ≤ℤ z → z ≤ℤ y → y ≡ z
both y z h k = omega (arith, ints)

neither : (y z : ℤ) → (y <ℤ z → ⊥) → (z <ℤ y → ⊥) → y ≡ z
neither y z below above = both y z (not_above (int_le y z) y z refl above) (not_above (int_le z y) z y refl below)

not_true : false ≡ true → ⊥
not_true e = absurd (cc)

-- ---- what a decision says

pub solved : (f : Formula) (box same : Boxed) (decision : Decision) (values : List ℤ) → same ≡ box → decision ≡ Solution values → IsExact f same decision
    → Decides true (Solvable f box)
solved f box same decision values is found exact =
    subst (λ b. Decides true (Solvable f b)) is ((λ e. exact.0 (ap (λ d. is_solution d) found)), (λ _. refl))

pub unsolved : (f : Formula) (box same : Boxed) (decision : Decision) (r : Refutation) → same ≡ box → decision ≡ Refuted r → IsExact f same decision
    → Decides false (Solvable f box)
unsolved f box same decision r is refuted exact =
    subst (λ b. Decides false (Solvable f b)) is ((λ e. absurd (cc)), (λ solvable. sym (ap (λ d. is_solution d) refuted) ∙ exact.1 solvable))

-- ---- lesser and greater values

module _ (f : Formula) (box : Boxed) (x : ℕ) (some : x < length box.bounds) (value low high : ℤ) (is : slice_get box.bounds x ≡ Some (low, high)) where
  bounds_are : (l h : ℤ) → slice_get box.bounds x ≡ Some (l, h) → (low ≡ l) × (high ≡ h)
  bounds_are l h e =
      let same : Some (low, high) ≡ Some (l, h) = sym is ∙ e in
      let both : (low, high) ≡ (l, h) = cc in
      (ap (λ (b : ℤ × ℤ). b.0) both, ap (λ (b : ℤ × ℤ). b.1) both)

  none_below : value ≤ℤ low → IsSolvedAt f box x (λ other. other <ℤ value) → ⊥
  none_below least (values, lies, holds, less) = let at = (lies x low high is).0 in omega (arith, ints, least, at, less)

  none_above : high ≤ℤ value → IsSolvedAt f box x (λ other. value <ℤ other) → ⊥
  none_above most (values, lies, holds, more) = let at = (lies x low high is).1 in omega (arith, ints, most, at, more)

  from_below : value ≤ℤ high → Solvable f (narrowed box x low (value -ℤ pos 1)) → IsSolvedAt f box x (λ other. other <ℤ value)
  from_below most (values, lies, holds) =
      let at = (here values box.bounds x some low (value -ℤ pos 1) lies).1 in
      let range : (l h : ℤ) → slice_get box.bounds x ≡ Some (l, h) → (l ≤ℤ low) × ((value -ℤ pos 1) ≤ℤ h) = λ l h e.
      let same = bounds_are l h e in
      (subst (λ z. z ≤ℤ low) same.0 (omega (arith, ints)), subst (λ z. (value -ℤ pos 1) ≤ℤ z) same.1 (omega (arith, ints, most)))
      in
      (values, wider values box.bounds x some low (value -ℤ pos 1) range lies, holds, omega (arith, ints, at))

  to_below : IsSolvedAt f box x (λ other. other <ℤ value) → Solvable f (narrowed box x low (value -ℤ pos 1))
  to_below (values, lies, holds, less) =
      let at = (lies x low high is).0 in
      (values, narrower values box.bounds x some low (value -ℤ pos 1) at (omega (arith, ints, less)) lies, holds)

  from_above : low ≤ℤ value → Solvable f (narrowed box x (value +ℤ pos 1) high) → IsSolvedAt f box x (λ other. value <ℤ other)
  from_above least (values, lies, holds) =
      let at = (here values box.bounds x some (value +ℤ pos 1) high lies).0 in
      let range : (l h : ℤ) → slice_get box.bounds x ≡ Some (l, h) → (l ≤ℤ (value +ℤ pos 1)) × (high ≤ℤ h) = λ l h e.
      let same = bounds_are l h e in
      (subst (λ z. z ≤ℤ (value +ℤ pos 1)) same.0 (omega (arith, ints, least)), subst (λ z. high ≤ℤ z) same.1 (omega (arith, ints)))
      in
      (values, wider values box.bounds x some (value +ℤ pos 1) high range lies, holds, omega (arith, ints, at))

  to_above : IsSolvedAt f box x (λ other. value <ℤ other) → Solvable f (narrowed box x (value +ℤ pos 1) high)
  to_above (values, lies, holds, more) =
      let at = (lies x low high is).1 in
      (values, narrower values box.bounds x some (value +ℤ pos 1) high (omega (arith, ints, more)) at lies, holds)

  -- ---- what is asked

  no_less : value ≤ℤ low → Decides false (IsSolvedAt f box x (λ other. other <ℤ value))
  no_less least = (λ e. absurd (cc), λ less. absurd (none_below least less))

  no_more : high ≤ℤ value → Decides false (IsSolvedAt f box x (λ other. value <ℤ other))
  no_more most = (λ e. absurd (cc), λ more. absurd (none_above most more))

  less_by : value ≤ℤ high → (has : Bool) → Decides has (Solvable f (narrowed box x low (value -ℤ pos 1)))
      → Decides has (IsSolvedAt f box x (λ other. other <ℤ value))
  less_by most has asked = (λ e. from_below most (asked.0 e), λ less. asked.1 (to_below less))

  more_by : low ≤ℤ value → (has : Bool) → Decides has (Solvable f (narrowed box x (value +ℤ pos 1) high))
      → Decides has (IsSolvedAt f box x (λ other. value <ℤ other))
  more_by least has asked = (λ e. from_above least (asked.0 e), λ more. asked.1 (to_above more))

-- ---- by the bounds of a variable

some_bounds : (box : Boxed) (x : ℕ) → x < length box.bounds → (b : ℤ × ℤ) × (slice_get box.bounds x ≡ Some b)
some_bounds box x some = (get_or box.bounds x (pos 0, pos 0), slice_get-get_or box.bounds x (pos 0, pos 0) some)

module _ (f : Formula) (box : Boxed) (x : ℕ) (some : x < length box.bounds) (value : ℤ) (within : IsWithin box x value) where
  module _ (low : ℤ) (low_is : (b : ℤ × ℤ) → slice_get box.bounds x ≡ Some b → b.0 ≡ low) where
    pub none_less : value ≤ℤ low → Decides false (IsSolvedAt f box x (λ other. other <ℤ value))
    none_less least =
        let (b, is) = some_bounds box x some in
        no_less f box x some value b.0 b.1 is (subst (λ z. value ≤ℤ z) (sym (low_is b is)) least)

    pub some_less : (has : Bool) → Decides has (Solvable f (narrowed box x low (value -ℤ pos 1))) → Decides has (IsSolvedAt f box x (λ other. other <ℤ value))
    some_less has asked =
        let (b, is) = some_bounds box x some in
        less_by f box x some value b.0 b.1 is (within b.0 b.1 is).1 has
        (subst (λ z. Decides has (Solvable f (narrowed box x z (value -ℤ pos 1)))) (sym (low_is b is)) asked)

  module _ (high : ℤ) (high_is : (b : ℤ × ℤ) → slice_get box.bounds x ≡ Some b → b.1 ≡ high) where
    pub none_more : high ≤ℤ value → Decides false (IsSolvedAt f box x (λ other. value <ℤ other))
    none_more most =
        let (b, is) = some_bounds box x some in
        no_more f box x some value b.0 b.1 is (subst (λ z. z ≤ℤ value) (sym (high_is b is)) most)

    pub some_more : (has : Bool) → Decides has (Solvable f (narrowed box x (value +ℤ pos 1) high)) → Decides has (IsSolvedAt f box x (λ other. value <ℤ other))
    some_more has asked =
        let (b, is) = some_bounds box x some in
        more_by f box x some value b.0 b.1 is (within b.0 b.1 is).0 has
        (subst (λ z. Decides has (Solvable f (narrowed box x (value +ℤ pos 1) z))) (sym (high_is b is)) asked)

-- ---- a value that is sure

pub is_within : (box : Boxed) (x : ℕ) (found : List ℤ) (value : ℤ) → value ≡ assigned found x → LiesIn (assigned found) box → IsWithin box x value
is_within box x found value is lies low high e = subst (λ z. (low ≤ℤ z) × (z ≤ℤ high)) (sym is) (lies x low high e)

module _ (f : Formula) (box : Boxed) (x : ℕ) (found : List ℤ) (solves : Solves f box found) (value : ℤ) (is : value ≡ assigned found x) where
  pub sure_tells : (less more : Bool) → less ≡ false → more ≡ false → Decides less (IsSolvedAt f box x (λ other. other <ℤ value))
      → Decides more (IsSolvedAt f box x (λ other. value <ℤ other)) → Tells f box x (Some value)
  sure_tells less more no_less no_more below above = record {
    some = (assigned found, solves.1, solves.2);
    all = λ values lies holds. neither (values x) value (λ h. not_true (sym no_less ∙ below.1 (values, lies, holds, h)))
        (λ h. not_true (sym no_more ∙ above.1 (values, lies, holds, h)));
  }

-- ---- one thing is told

pub tells_once : (f : Formula) (box : Boxed) (x : ℕ) (one other : Option ℤ) → Tells f box x one → Tells f box x other → one ≡ other
tells_once f box x None None h k = refl
tells_once f box x None (Some b) h k = absurd (h b k)
tells_once f box x (Some a) None h k = absurd (k a h)
tells_once f box x (Some a) (Some b) h k =
    let (values, lies, holds) = h.some in
    ap Some (sym (h.all values lies holds) ∙ k.all values lies holds)
