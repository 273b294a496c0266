-- Half of the range in which the least value of a variable is.
use Rattle.std.proofs.Common.{◌≡◌, ℕ, ◌<◌, List, length, refl, sym, subst, ◌∙◌}
use Rattle.std.proofs.Common.{arith, Bool, true, false, ℤ, pos, ◌+ℤ◌, ◌-ℤ◌, Some}
use Rattle.std.specs.Prelude.{slice_get, int_le, ◌≤ℤ◌, ◌<ℤ◌}
use Rattle.std.specs.Int.RustNames.{unsigned_abs}
use Rattle.std.proofs.lemmas.Bool.{true≢false}
use Rattle.std.proofs.lemmas.List.{length-set}
use Rattle.std.proofs.lemmas.Option.{slice_get-get_or}
use Rattle.std.proofs.lemmas.Int.{ints}
use Rattle.ipg_lin.specs.Formula.{assigned, Solvable}
use Rattle.ipg_lin.specs.declared.formula.Formula.{Formula}
use Rattle.ipg_lin.specs.declared.formula.Boxed.{Boxed}
use Rattle.ipg_cert.specs.declared.refutation.Refutation.{Refutation}
use Rattle.ipg_solve.specs.declared.decision.Decision.TheVariants.{Refuted}
use Rattle.ipg_solve.specs.Decides.{Solves, IsExact}
use Rattle.ipg_solve_values.specs.Least.{IsLeast}
use Rattle.ipg_solve_values.specs.Narrowed.{narrowed}
use Rattle.ipg_solve_values.specs.Halving.{IsLeastRange}
use Rattle.ipg_solve_values.specs.declared.halving.LeastRange.{LeastRange}
use Rattle.ipg_solve_values.proofs.OtherBounds.{here, wider, narrower, le_true, le_false}

next_up : (x y : ℤ) → y <ℤ x → (y +ℤ pos 1) ≤ℤ x
next_up x y h = omega (arith, ints)

above_by : (b : Bool) (x y : ℤ) → int_le x y ≡ b → (x ≤ℤ y → ⊥) → (y +ℤ pos 1) ≤ℤ x
above_by true x y e never = absurd (never (le_true x y e))
above_by false x y e never = next_up x y (le_false x y e)

pub never_refuted : (f : Formula) (box : Boxed) (r : Refutation) → IsExact f box (Refuted r) → Solvable f box → ⊥
never_refuted f box r exact solvable = true≢false (sym (exact.1 solvable))

pub shorter : (low high at next : ℤ) → low ≤ℤ next → next ≤ℤ at → at <ℤ high → unsigned_abs (next -ℤ low) < unsigned_abs (high -ℤ low)
shorter low high at next a b c = omega (arith, ints)

pub shorter_above : (low high at : ℤ) → low ≤ℤ at → at <ℤ high → unsigned_abs (high -ℤ (at +ℤ pos 1)) < unsigned_abs (high -ℤ low)
shorter_above low high at a b = omega (arith, ints)

module _ (f : Formula) (box : Boxed) (x : ℕ) (range : LeastRange) (is : IsLeastRange f box x range) (some : x < length box.bounds) (at : ℤ)
    (least : range.low ≤ℤ at) (most : at <ℤ range.high) where
  in_range : (b : ℤ × ℤ) → slice_get box.bounds x ≡ Some b → (b.0 ≤ℤ range.low) × (at ≤ℤ b.1)
  in_range b e =
      let lies = is.solves.1 x b.0 b.1 e in
      let high = is.high in
      (is.within b e, omega (arith, ints, lies.1, high))

  -- a solution in the lower half
  pub found : (values : List ℤ) (high : ℤ) → high ≡ assigned values x → Solves f (narrowed box x range.low at) values
      → IsLeastRange f box x (record { low = range.low; high = high; values = values })
  found values high e solves = record {
    solves = (
      solves.0 ∙ length-set box.bounds x (range.low, at),
      wider (assigned values) box.bounds x some range.low at (λ l h e. in_range (l, h) e) solves.1,
      solves.2,
    );
    high = sym e;
    low = is.low;
    within = is.within;
  }

  pub found_less : (values : List ℤ) (high : ℤ) → high ≡ assigned values x → Solves f (narrowed box x range.low at) values
      → unsigned_abs (high -ℤ range.low) < unsigned_abs (range.high -ℤ range.low)
  found_less values high e solves =
      let lies = here (assigned values) box.bounds x some range.low at solves.1 in
      shorter range.low range.high at high (subst (λ z. range.low ≤ℤ z) (sym e) lies.0) (subst (λ z. z ≤ℤ at) (sym e) lies.1) most

  -- none
  pub none : (Solvable f (narrowed box x range.low at) → ⊥) → IsLeastRange f box x (record { low = at +ℤ pos 1; high = range.high; values = range.values })
  none never = record {
    solves = is.solves;
    high = is.high;
    low = λ other lies holds.
        let above : range.low ≤ℤ other x = is.low other lies holds in
        above_by (int_le (other x) at) (other x) at refl (λ below. never (other, narrower other box.bounds x some range.low at above below lies, holds));
    within = λ b e. let w = is.within b e in omega (arith, ints, w, least);
  }

pub at_first : (f : Formula) (box : Boxed) (x : ℕ) (range : LeastRange) → Solves f box range.values → range.high ≡ assigned range.values x
    → ((b : ℤ × ℤ) → slice_get box.bounds x ≡ Some b → b.0 ≡ range.low) → x < length box.bounds → IsLeastRange f box x range
at_first f box x range solves high low some = record {
  solves = solves;
  high = sym high;
  low = λ other lies holds.
      let here = slice_get-get_or box.bounds x (pos 0, pos 0) some in
      subst (λ z. z ≤ℤ other x) (low _ here) (lies x _ _ here).0;
  within = λ b e. let same = low b e in omega (arith, ints, same);
}

pub settles : (f : Formula) (box : Boxed) (x : ℕ) (range : LeastRange) → IsLeastRange f box x range → range.high ≤ℤ range.low → IsLeast f box x range.values
settles f box x range is met = record {
  solves = is.solves;
  least = λ other lies holds. let low = is.low other lies holds in let high = is.high in omega (arith, ints, low, high, met);
}
