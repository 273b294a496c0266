-- What lies in results, near and one by one.
use Rattle.std.proofs.Common.{◌≡◌, ℕ, ◌+◌, ◌-◌, ◌^◌, ◌≤◌, List, [], ◌∷◌, ◌++◌, flat_map, refl, ap, sym, arith}
use Rattle.ipg_core.specs.Tree as tree
use Rattle.ipg_core.specs.Tree.{Tree, Node, Sub, Token, Number, Raw, Array, Many, Kids, no_kids, kid}
use Rattle.ipg_core.specs.Within.{TreeWithin}
use Rattle.ipg_mach_nodes.specs.declared.kid.Kid.{Kid}
use Rattle.ipg_mach_nodes.specs.Stored.{Stored, Source, StandsKid, StandKids}
use Rattle.ipg_table.specs.Rows.{Each}
use Rattle.ipg_tree_walk.specs.Visits.{kids_in, kids_in_tree, place_in}
use Rattle.ipg_query.specs.Picked.{Found, found, each_of, spread, spread_each, all_in, all_in_kids, all_of}
use Rattle.ipg_query.specs.Spots.{IsNear, AreNear, IsSpot, spot_at}

pub first_near : (at : ℕ) (one : tree.Kid) (more : Kids) → AreNear at (kid one more) → IsNear at one
first_near at one more near = record { size = near.size; within = near.within.0; small = near.small }

pub rest_near : (at : ℕ) (one : tree.Kid) (more : Kids) → AreNear at (kid one more) → AreNear at more
rest_near at one more near = record { size = near.size; within = near.within.1; small = near.small }

tree_near : (at n : ℕ) (one : Tree) → TreeWithin n one → at + n ≤ 2 ^ 30 → AreNear at (kids_in_tree one)
tree_near at n (Node rule size attrs start end kids) within small = record { size = n; within = within.2; small = small }

-- what lies in a result that is near is near
pub in_near : (at : ℕ) (one : tree.Kid) → IsNear at one → AreNear (place_in at one) (kids_in one)
in_near at (Sub from to sub) near =
    tree_near (at + from) (to - from) sub near.within.1 (omega (arith, near.small, near.within.0.valid, near.within.0.inside))
in_near at (Token from to bytes) near = record { size = near.size; within = tt; small = near.small }
in_near at (Number from to prim high low) near = record { size = near.size; within = tt; small = near.small }
in_near at (Raw from to bytes) near = record { size = near.size; within = tt; small = near.small }
in_near at (Array sym items) near = record { size = near.size; within = near.within; small = near.small }
in_near at (Many sym items) near = record { size = near.size; within = near.within; small = near.small }

module _ (src : Source) (st : Stored) (at : ℕ) where
  pub spot_is : (k : Kid) (one : tree.Kid) → StandsKid src st at k one → IsNear at one → IsSpot src st (spot_at at k) (found at one)
  spot_is k one stands near = record { at = refl; stands = stands; near = near }

abbrev pub spread_of : Found → List Found
spread_of x = spread x.at x.child

pub spread_is : (at : ℕ) (ones : Kids) → flat_map spread_of (each_of at ones) ≡ spread_each at ones
spread_is at no_kids = refl
spread_is at (kid one more) = ap (λ xs. spread at one ++ xs) (spread_is at more)

pub all_is : (at : ℕ) (ones : Kids) → flat_map all_of (each_of at ones) ≡ all_in_kids at ones
all_is at no_kids = refl
all_is at (kid one more) = ap (λ xs. all_in at one ++ xs) (all_is at more)

module _ (src : Source) (st : Stored) (at : ℕ) where
  -- a row of the part, as a spot, is that result
  abbrev pub IsRow : Kid → Found → Type 0
  IsRow k x = IsSpot src st (spot_at at k) x

  pub rows_are : (rows : List Kid) (ones : Kids) → StandKids src st at rows ones → AreNear at ones → Each IsRow rows (each_of at ones)
  rows_are [] no_kids stand near = tt
  rows_are [] (kid one more) stand near = absurd stand
  rows_are (k ∷ rows) no_kids stand near = absurd stand
  rows_are (k ∷ rows) (kid one more) stand near =
      (spot_is src st at k one stand.0 (first_near at one more near), rows_are rows more stand.1 (rest_near at one more near))
