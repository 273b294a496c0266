-- What is put behind spots of a row, and what lies below a result.
use Rattle.std.proofs.Common.{◌≡◌, ℕ, ◌+◌, Bool, true, false, List, [], ◌∷◌, ◌++◌, length, filter, flat_map, arith, refl, ap, ◌∙◌, sym, subst}
use Rattle.std.proofs.Common.{subst₂, append-nil, true≢false, if◌then◌else◌}
use Rattle.ipg_core.specs.Tree as tree
use Rattle.ipg_core.specs.Tree.{Tree, Node, Sub, Token, Number, Raw, Array, Many, Kids, no_kids, kid}
use Rattle.std.specs.Prelude.{⊤}
use Rattle.ipg_mach_nodes.specs.declared.kid.Kid.{Kid}
use Rattle.ipg_mach_nodes.specs.declared.kid.Kid.TheVariants as row
use Rattle.ipg_mach_nodes.specs.Stored.{Stored, Source, StandsKid, StandKids}
use Rattle.ipg_mach_results.specs.Flat.{has_items}
use Rattle.ipg_tree_walk.specs.Visits.{kids_in, kids_in_tree, place_in}
use Rattle.ipg_query.specs.declared.spot.Spot.{Spot}
use Rattle.ipg_query.specs.Picked.{Found, found, each_of, spread, spread_each, below, below_in, all_in, all_in_tree, all_in_kids, all_of}
use Rattle.ipg_query.specs.Spots.{IsNear, AreNear, IsSpot, AreSpots, own}
use Rattle.ipg_query.proofs.Going.{push_one}
use Rattle.ipg_query.proofs.Lying.{in_near, all_is}

-- ---- a row

items_place : (at : ℕ) (one : tree.Kid) → has_items one ≡ true → place_in at one ≡ at
items_place at (Sub from to sub) e = absurd (true≢false (sym e))
items_place at (Token from to bytes) e = absurd (true≢false (sym e))
items_place at (Number from to prim high low) e = absurd (true≢false (sym e))
items_place at (Raw from to bytes) e = absurd (true≢false (sym e))
items_place at (Array sym items) e = refl
items_place at (Many sym items) e = refl

items_spread : (at : ℕ) (one : tree.Kid) → has_items one ≡ true → spread at one ≡ each_of at (kids_in one)
items_spread at (Sub from to sub) e = absurd (true≢false (sym e))
items_spread at (Token from to bytes) e = absurd (true≢false (sym e))
items_spread at (Number from to prim high low) e = absurd (true≢false (sym e))
items_spread at (Raw from to bytes) e = absurd (true≢false (sym e))
items_spread at (Array sym items) e = refl
items_spread at (Many sym items) e = refl

lone_spread : (at : ℕ) (one : tree.Kid) → has_items one ≡ false → spread at one ≡ found at one ∷ []
lone_spread at (Sub from to sub) e = refl
lone_spread at (Token from to bytes) e = refl
lone_spread at (Number from to prim high low) e = refl
lone_spread at (Raw from to bytes) e = refl
lone_spread at (Array sym items) e = absurd (true≢false e)
lone_spread at (Many sym items) e = absurd (true≢false e)

module _ (src : Source) (st : Stored) (at : ℕ) (one : tree.Kid) (to : List Spot) (before : List Found) (p : Found → Bool) where
  pub items_stand : (rows : List Kid) → has_items one ≡ true → StandKids src st (place_in at one) rows (kids_in one) → StandKids src st at rows (kids_in one)
  items_stand rows items stand = subst (λ n. StandKids src st n rows (kids_in one)) (items_place at one items) stand

  pub items_near : has_items one ≡ true → IsNear at one → AreNear at (kids_in one)
  items_near items near = subst (λ n. AreNear n (kids_in one)) (items_place at one items) (in_near at one near)

  pub spread_items : has_items one ≡ true → AreSpots src st to (before ++ filter p (each_of at (kids_in one)))
      → AreSpots src st to (before ++ filter p (spread at one))
  spread_items items made = subst (λ xs. AreSpots src st to (before ++ filter p xs)) (sym (items_spread at one items)) made

  pub spread_lone : has_items one ≡ false → AreSpots src st to (before ++ filter p (found at one ∷ []))
      → AreSpots src st to (before ++ filter p (spread at one))
  spread_lone lone made = subst (λ xs. AreSpots src st to (before ++ filter p xs)) (sym (lone_spread at one lone)) made

-- ---- below a result

lone_below : (at : ℕ) (one : tree.Kid) → has_items one ≡ false → spread_each (place_in at one) (kids_in one) ≡ below_in at one
lone_below at (Sub from to sub) e = refl
lone_below at (Token from to bytes) e = refl
lone_below at (Number from to prim high low) e = refl
lone_below at (Raw from to bytes) e = refl
lone_below at (Array sym items) e = absurd (true≢false e)
lone_below at (Many sym items) e = absurd (true≢false e)

items_below : (at : ℕ) (one : tree.Kid) → has_items one ≡ true → [] ≡ below_in at one
items_below at (Sub from to sub) e = absurd (true≢false (sym e))
items_below at (Token from to bytes) e = absurd (true≢false (sym e))
items_below at (Number from to prim high low) e = absurd (true≢false (sym e))
items_below at (Raw from to bytes) e = absurd (true≢false (sym e))
items_below at (Array sym items) e = refl
items_below at (Many sym items) e = refl

module _ (src : Source) (st : Stored) (spot : Spot) (x : Found) (is : IsSpot src st spot x) where
  pub none_below : (p : Found → Bool) (out : List Spot) (before : List Found) → has_items x.child ≡ true → AreSpots src st out before
      → AreSpots src st out (before ++ filter p (below x))
  none_below p out before items made =
      subst (λ xs. AreSpots src st out (before ++ filter p xs)) (items_below x.at x.child items) (subst (AreSpots src st out) (sym (append-nil before)) made)

  pub place_is : (place : ℕ) → place ≡ place_in spot.at x.child → place ≡ place_in x.at x.child
  place_is place e = e ∙ ap (λ n. place_in n x.child) is.at

  pub rows_stand : (place : ℕ) (rows : List Kid) → place ≡ place_in spot.at x.child → StandKids src st (place_in spot.at x.child) rows (kids_in x.child)
      → StandKids src st place rows (kids_in x.child)
  rows_stand place rows e stand = subst (λ n. StandKids src st n rows (kids_in x.child)) (sym e) stand

  pub rows_near : (place : ℕ) → place ≡ place_in spot.at x.child → AreNear place (kids_in x.child)
  rows_near place e = subst (λ n. AreNear n (kids_in x.child)) (sym e) (in_near spot.at x.child is.near)

  pub all_below : (p : Found → Bool) (place : ℕ) (to : List Spot) (before : List Found) → has_items x.child ≡ false → place ≡ place_in spot.at x.child
      → AreSpots src st to (before ++ filter p (spread_each place (kids_in x.child))) → AreSpots src st to (before ++ filter p (below x))
  all_below p place to before lone e made =
      subst (λ xs. AreSpots src st to (before ++ filter p xs))
      (ap (λ n. spread_each n (kids_in x.child)) (place_is place e) ∙ lone_below x.at x.child lone) made

  -- ---- a result alone

  pub put_own : (out to : List Spot) (before : List Found) → has_items x.child ≡ false → AreSpots src st out before → to ≡ out ++ spot ∷ []
      → AreSpots src st to (before ++ own x)
  put_own out to before lone made put =
      subst₂ (λ ys b. AreSpots src st ys (before ++ (if b then [] else x ∷ []))) (sym put) (sym lone) (push_one (IsSpot src st) out before spot x made is)

  pub put_none : (out : List Spot) (before : List Found) → has_items x.child ≡ true → AreSpots src st out before → AreSpots src st out (before ++ own x)
  put_none out before items made =
      subst (λ b. AreSpots src st out (before ++ (if b then [] else x ∷ []))) (sym items) (subst (AreSpots src st out) (sym (append-nil before)) made)

-- ---- a leaf

abbrev pub IsLeafRow : Kid → Type 0
IsLeafRow (row.Node id from to) = ⊥
IsLeafRow (row.Text n from to) = ⊤
IsLeafRow (row.Number prim from to high low) = ⊤
IsLeafRow (row.Raw from to) = ⊤
IsLeafRow (row.Array n items) = ⊥
IsLeafRow (row.Many n items) = ⊥

-- nothing lies in what stands in the row of a leaf
pub leaf_alone : (src : Source) (st : Stored) (at place : ℕ) (k : Kid) (one : tree.Kid) → IsLeafRow k → StandsKid src st at k one
    → (below_in place one ≡ []) × (all_in place one ≡ found place one ∷ [])
leaf_alone src st at place k (Sub from to sub) is stands = absurd (subst IsLeafRow stands.1 is)
leaf_alone src st at place k (Token from to bytes) is stands = (refl, refl)
leaf_alone src st at place k (Number from to prim high low) is stands = (refl, refl)
leaf_alone src st at place k (Raw from to bytes) is stands = (refl, refl)
leaf_alone src st at place k (Array sym items) is stands = absurd (subst IsLeafRow stands.3 is)
leaf_alone src st at place k (Many sym items) is stands = absurd (subst IsLeafRow stands.3 is)

-- ---- all that lies in a result

all_tree : (at : ℕ) (one : Tree) → all_in_tree at one ≡ all_in_kids at (kids_in_tree one)
all_tree at (Node rule size attrs start end kids) = refl

all_parts_in : (at : ℕ) (one : tree.Kid) → all_in at one ≡ own (found at one) ++ all_in_kids (place_in at one) (kids_in one)
all_parts_in at (Sub from to sub) = ap (λ xs. found at (Sub from to sub) ∷ xs) (all_tree (at + from) sub)
all_parts_in at (Token from to bytes) = refl
all_parts_in at (Number from to prim high low) = refl
all_parts_in at (Raw from to bytes) = refl
all_parts_in at (Array sym items) = refl
all_parts_in at (Many sym items) = refl

pub all_parts : (x : Found) → all_of x ≡ own x ++ flat_map all_of (each_of (place_in x.at x.child) (kids_in x.child))
all_parts x = all_parts_in x.at x.child ∙ ap (λ xs. own x ++ xs) (sym (all_is (place_in x.at x.child) (kids_in x.child)))

no_rows : (src : Source) (st : Stored) (at : ℕ) (rows : List Kid) (ones : Kids) → rows ≡ [] → StandKids src st at rows ones → ones ≡ no_kids
no_rows src st at [] no_kids e stand = refl
no_rows src st at [] (kid one more) e stand = absurd stand
no_rows src st at (k ∷ rows) no_kids e stand = refl
no_rows src st at (k ∷ rows) (kid one more) e stand = absurd (omega (arith, ap length e))

-- where nothing lies in a result, all of it is the result
pub alone : (src : Source) (st : Stored) (at place : ℕ) (rows : List Kid) (one : tree.Kid) → has_items one ≡ false
    → StandKids src st (place_in at one) rows (kids_in one) → rows ≡ [] → all_in place one ≡ found place one ∷ []
alone src st at place rows one lone stand none =
    all_parts_in place one
    ∙ ap (λ b. (if b then [] else found place one ∷ []) ++ all_in_kids (place_in place one) (kids_in one)) lone
    ∙ ap (λ ks. found place one ∷ all_in_kids (place_in place one) ks) (no_rows src st (place_in at one) rows (kids_in one) none stand)
