-- A tree holds what it was parsed from: its terminals, numbers and raw bytes are bytes of its part.
use Rattle.std.specs.Prelude.{◌≡◌, ◌≢◌, ℕ, ◌≤◌, List, take, length}
use Rattle.ipg_core.specs.declared.grammar.Primitive.{Primitive}
use Rattle.ipg_core.specs.declared.grammar.Primitive.TheVariants.{Bytes}
use Rattle.ipg_core.specs.Part.{part}
use Rattle.ipg_core.specs.Tree.{Tree, Node, Kid, Sub, Token, Number, Raw, Array, Many, Kids, no_kids, kid}
use Rattle.ipg_core.specs.Touch.{width}
use Rattle.ipg_core.specs.Meaning.{halves}

-- the number that bytes begin with
pub record IsNumber (prim : Primitive) (bytes : List ℕ) (high low : ℕ) : Type 0 where
  pub number : prim ≢ Bytes
  pub enough : width prim ≤ length bytes
  pub is_high : (halves prim bytes).0 ≡ high
  pub is_low : (halves prim bytes).1 ≡ low

abbrev mutual
  -- a tree of a part with these bytes
  pub TreeHolds : List ℕ → Tree → Type 0
  TreeHolds s (Node rule size attrs start end kids) = KidsHold s kids

  -- a child in a part with these bytes
  pub KidHolds : List ℕ → Kid → Type 0
  KidHolds s (Sub from to tree) = TreeHolds (part s from to) tree
  KidHolds s (Token from to bytes) = take (length bytes) (part s from to) ≡ bytes
  KidHolds s (Number from to prim high low) = IsNumber prim (part s from to) high low
  KidHolds s (Raw from to bytes) = part s from to ≡ bytes
  KidHolds s (Array sym items) = KidsHold s items
  KidHolds s (Many sym items) = KidsHold s items

  pub KidsHold : List ℕ → Kids → Type 0
  KidsHold s no_kids = Unit {0}
  KidsHold s (kid k ks) = KidHolds s k × KidsHold s ks
