-- Where the bytes of a leaf within a length lie.
use Rattle.std.proofs.Common.{◌≡◌, ℕ, ◌+◌, ◌-◌, ◌<◌, ◌≤◌, List, length, Option, Some, ◌++◌, min, arith, ap, sym, ◌∙◌, subst}
use Rattle.std.specs.List.{Contains}
use Rattle.ipg_cover_leaves.specs.declared.leaf.Leaf.{Leaf}
use Rattle.ipg_cover_leaves.specs.Bytes.{from_on, leaf_bytes, place_of, puts_of, or_none}
use Rattle.ipg_cover_leaves.specs.Back.{IsInside}
use Rattle.ipg_cover_leaves.specs.Page.{Holds}
use Rattle.ipg_cover_leaves.proofs.Places.{last, lies}

pub puts_are : (leaf : Leaf) (bytes : List ℕ) → leaf_bytes leaf ≡ Some bytes → puts_of leaf ≡ from_on (place_of leaf) bytes
puts_are leaf bytes is = ap (λ these. from_on (place_of leaf) (or_none these)) is

-- its last byte lies within the length, if it has one
pub ends_inside : (len : ℕ) (leaf : Leaf) (bytes : List ℕ) → leaf_bytes leaf ≡ Some bytes → IsInside len leaf → 1 ≤ length bytes
    → place_of leaf + length bytes ≤ len
ends_inside len leaf bytes is inside some =
    let at = last (place_of leaf) bytes some in
    omega (
      arith,
      some,
      inside (place_of leaf + length bytes - 1, at.byte)
          (subst (λ these. Contains these (place_of leaf + length bytes - 1, at.byte)) (sym (puts_are leaf bytes is)) at.there),
    )

-- and so do all, where that does
pub is_inside : (len : ℕ) (leaf : Leaf) (bytes : List ℕ) → leaf_bytes leaf ≡ Some bytes → (1 ≤ length bytes → place_of leaf + length bytes ≤ len)
    → IsInside len leaf
is_inside len leaf bytes is ends put there =
    let between = lies (place_of leaf) bytes put (subst (λ these. Contains these put) (puts_are leaf bytes is) there) in
    omega (arith, between.from, between.to, ends (omega (arith, between.from, between.to)))

module _ (leaf : Leaf) (from : ℕ) (bytes : List ℕ) (at : place_of leaf ≡ from) (is : leaf_bytes leaf ≡ Some bytes) where
  pub fits : (len : ℕ) → IsInside len leaf → 1 ≤ length bytes → from + length bytes ≤ len
  fits len inside some = subst (λ (n : ℕ). n + length bytes ≤ len) at (ends_inside len leaf bytes is inside some)

  pub put_there : (cells : List (Option ℕ)) (clash : Option ℕ) (all : List (ℕ × ℕ)) → Holds cells clash (all ++ from_on from bytes)
      → Holds cells clash (all ++ puts_of leaf)
  put_there cells clash all holds = subst (λ these. Holds cells clash (all ++ these)) (ap (λ n. from_on n bytes) (sym at) ∙ sym (puts_are leaf bytes is)) holds

-- a sum that stops at a number past the length
pub sum_within : (a b most sum len : ℕ) → sum ≡ min (a + b) most → len < most → sum ≤ len → a + b ≤ len
sum_within a b most sum len is past less = grind (arith, is, past, less)

pub sum_past : (a b most sum len : ℕ) → sum ≡ min (a + b) most → len < sum → a + b ≤ len → ⊥
sum_past a b most sum len is past less = grind (arith, is, past, less)
