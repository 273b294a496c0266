-- A result lies within its part: each interval is valid, and what is touched lies in the interval that touches it.
use Rattle.std.specs.Prelude.{◌≡◌, ℕ, ◌-◌, ◌≤◌, length}
use Rattle.ipg_core.specs.Tree.{Tree, Node, Kid, Sub, Token, Number, Raw, Array, Many, Kids, no_kids, kid}
use Rattle.ipg_core.specs.Touch.{width}

-- an interval of a part of n bytes
pub record IsInterval (n from to : ℕ) : Type 0 where
  pub valid : from ≤ to
  pub inside : to ≤ n

-- the ends of a result of a part of n bytes, in its own places
pub record AreEnds (n start end : ℕ) : Type 0 where
  pub starts : start ≤ n
  pub ends : end ≤ n

abbrev mutual
  -- a tree of a part of n bytes
  pub TreeWithin : ℕ → Tree → Type 0
  TreeWithin n (Node rule size attrs start end kids) = (size ≡ n) × AreEnds n start end × KidsWithin n kids

  -- a child in a part of n bytes
  pub KidWithin : ℕ → Kid → Type 0
  KidWithin n (Sub from to tree) = IsInterval n from to × TreeWithin (to - from) tree
  KidWithin n (Token from to bytes) = IsInterval n from to × (length bytes ≤ to - from)
  KidWithin n (Number from to prim high low) = IsInterval n from to × (width prim ≤ to - from)
  KidWithin n (Raw from to bytes) = IsInterval n from to × (length bytes ≡ to - from)
  KidWithin n (Array sym items) = KidsWithin n items
  KidWithin n (Many sym items) = KidsWithin n items

  pub KidsWithin : ℕ → Kids → Type 0
  KidsWithin n no_kids = Unit {0}
  KidsWithin n (kid k ks) = KidWithin n k × KidsWithin n ks
