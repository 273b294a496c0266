-- The first of a list that is not so.
use Rattle.std.proofs.Common.{◌≡◌, ℕ, ◌+◌, ◌<◌, ◌≤◌, List, length, Some, arith, refl, subst, inl, inr, Bool, true, false, MatchBool}
use Rattle.std.specs.Prelude.{slice_get}
use Rattle.std.specs.List.{All}
use Rattle.std.proofs.lemmas.Option.{slice_get-get_or}
use Rattle.ipg_cover_leaves.specs.declared.leaf.Leaf.{Leaf}
use Rattle.ipg_cover_leaves.specs.Back.{IsFirstNot}
use Rattle.ipg_cover_leaves.proofs.Cells.{same_or_not}

-- all before a place are so
abbrev pub AreSoBefore : (Leaf → Type 0) → List Leaf → ℕ → Type 0
AreSoBefore Is leaves n = (k : ℕ) (one : Leaf) → k < n → slice_get leaves k ≡ Some one → Is one

module _ (Is : Leaf → Type 0) (leaves : List Leaf) where
  pub at_first : AreSoBefore Is leaves 0
  at_first k one less there = absurd (omega arith)

  -- the leaf at a place, as a loop reads it
  pub one_more : (n : ℕ) (leaf : Leaf) → slice_get leaves n ≡ Some leaf → Is leaf → AreSoBefore Is leaves n → AreSoBefore Is leaves (n + 1)
  one_more n leaf here is before k one less there = elim (same_or_not k n) [
    | inl e ↦ let same : leaf ≡ one = cc in subst Is same is
    | inr other ↦ before k one (omega (arith, less, other)) there
  ]

  pub first_not : (n : ℕ) (leaf : Leaf) → slice_get leaves n ≡ Some leaf → ¬ Is leaf → AreSoBefore Is leaves n → IsFirstNot Is leaves n
  first_not n leaf here not before = record { leaf = leaf; there = here; not = not; before = before }

  pub all_so : (n : ℕ) → length leaves ≤ n → AreSoBefore Is leaves n → All Is leaves
  all_so n past before k d less = before k _ (omega (arith, less, past)) (slice_get-get_or leaves k d less)

module _ {P Q : Type 0} where
  pub matched : (b : Bool) → (b ≡ true → P) → (b ≡ false → Q) → MatchBool b P Q
  matched true when unless = when refl
  matched false when unless = unless refl
