-- How many lists lie within one another in what a path comes to.
use Rattle.std.proofs.Common.{ℕ, zero, suc, ◌+◌, ◌≤◌, List, [], ◌∷◌, ◌++◌, flat_map, filter, arith, Bool, true, false, if◌then◌else◌}
use Rattle.ipg_core.specs.Grammar.{Grammar}
use Rattle.ipg_core.specs.Tree.{Tree, Node, Kid, Sub, Token, Number, Raw, Array, Many, Kids, no_kids, kid}
use Rattle.ipg_mach_nodes.specs.Stored.{tree_levels, kid_levels, kids_levels}
use Rattle.ipg_tree_walk.specs.Visits.{whole, kids_in_tree}
use Rattle.ipg_query_path.specs.declared.path.Step.{Step}
use Rattle.ipg_query_path.specs.declared.path.Step.TheVariants.{Named, Nth, Children, All}
use Rattle.ipg_query.specs.Picked.{Found, found, each_of, spread, spread_each, below, all_in, all_in_tree, all_in_kids, is_named, named, only, stepped, members}
use Rattle.ipg_query.specs.Laws.{AreShallow, MembersAreShallow}

both : (n : ℕ) (xs ys : List Found) → AreShallow n xs → AreShallow n ys → AreShallow n (xs ++ ys)
both n [] ys h k = k
both n (x ∷ xs) ys h k = (h.0, both n xs ys h.1 k)

-- ---- what lies in a result

each_shallow : (n at : ℕ) (ones : Kids) → kids_levels ones ≤ n → AreShallow n (each_of at ones)
each_shallow n at no_kids le = tt
each_shallow n at (kid one more) le = (omega (arith, le), each_shallow n at more (omega (arith, le)))

spread_shallow : (n at : ℕ) (one : Kid) → kid_levels one ≤ n → AreShallow n (spread at one)
spread_shallow n at (Sub from to sub) le = (le, tt)
spread_shallow n at (Token from to bytes) le = (le, tt)
spread_shallow n at (Number from to prim high low) le = (le, tt)
spread_shallow n at (Raw from to bytes) le = (le, tt)
spread_shallow n at (Array sym items) le = each_shallow n at items (omega (arith, le))
spread_shallow n at (Many sym items) le = each_shallow n at items (omega (arith, le))

spread_each_shallow : (n at : ℕ) (ones : Kids) → kids_levels ones ≤ n → AreShallow n (spread_each at ones)
spread_each_shallow n at no_kids le = tt
spread_each_shallow n at (kid one more) le =
    both n (spread at one) (spread_each at more) (spread_shallow n at one (omega (arith, le))) (spread_each_shallow n at more (omega (arith, le)))

in_tree : (n : ℕ) (one : Tree) → tree_levels one ≤ n → kids_levels (kids_in_tree one) ≤ n
in_tree n (Node rule size attrs start end kids) le = omega (arith, le)

below_shallow : (n at : ℕ) (one : Kid) → kid_levels one ≤ n → AreShallow n (below (found at one))
below_shallow n at (Sub from to sub) le = spread_each_shallow n (at + from) (kids_in_tree sub) (in_tree n sub le)
below_shallow n at (Token from to bytes) le = tt
below_shallow n at (Number from to prim high low) le = tt
below_shallow n at (Raw from to bytes) le = tt
below_shallow n at (Array sym items) le = tt
below_shallow n at (Many sym items) le = tt

mutual
  tree_shallow : (n at : ℕ) (one : Tree) → tree_levels one ≤ n → AreShallow n (all_in_tree at one)
  tree_shallow n at (Node rule size attrs start end kids) le = kids_shallow n at kids (omega (arith, le))

  kid_shallow : (n at : ℕ) (one : Kid) → kid_levels one ≤ n → AreShallow n (all_in at one)
  kid_shallow n at (Sub from to sub) le = (le, tree_shallow n (at + from) sub le)
  kid_shallow n at (Token from to bytes) le = (le, tt)
  kid_shallow n at (Number from to prim high low) le = (le, tt)
  kid_shallow n at (Raw from to bytes) le = (le, tt)
  kid_shallow n at (Array sym items) le = kids_shallow n at items (omega (arith, le))
  kid_shallow n at (Many sym items) le = kids_shallow n at items (omega (arith, le))

  kids_shallow : (n at : ℕ) (ones : Kids) → kids_levels ones ≤ n → AreShallow n (all_in_kids at ones)
  kids_shallow n at no_kids le = tt
  kids_shallow n at (kid one more) le =
      both n (all_in at one) (all_in_kids at more) (kid_shallow n at one (omega (arith, le))) (kids_shallow n at more (omega (arith, le)))

-- ---- steps

kept_if : (n : ℕ) (x : Found) (xs : List Found) (b : Bool) → kid_levels x.child ≤ n → AreShallow n xs → AreShallow n (if b then x ∷ xs else xs)
kept_if n x xs true le h = (le, h)
kept_if n x xs false le h = h

filter_shallow : (n : ℕ) (p : Found → Bool) (xs : List Found) → AreShallow n xs → AreShallow n (filter p xs)
filter_shallow n p [] h = tt
filter_shallow n p (x ∷ xs) h = kept_if n x (filter p xs) (p x) h.0 (filter_shallow n p xs h.1)

only_shallow : (n : ℕ) (xs : List Found) (k : ℕ) → AreShallow n xs → AreShallow n (only xs k)
only_shallow n [] k h = tt
only_shallow n (x ∷ xs) zero h = (h.0, tt)
only_shallow n (x ∷ xs) (suc k) h = only_shallow n xs k h.1

named_shallow : (n : ℕ) (g : Grammar) (name : List ℕ) (x : Found) → kid_levels x.child ≤ n → AreShallow n (named g name x)
named_shallow n g name x le = filter_shallow n (is_named g name) (below x) (below_shallow n x.at x.child le)

stepped_shallow : (n : ℕ) (g : Grammar) (step : Step) (x : Found) → kid_levels x.child ≤ n → AreShallow n (stepped g step x)
stepped_shallow n g (Named name) x le = named_shallow n g name x le
stepped_shallow n g (Nth name k) x le = only_shallow n (named g name x) k (named_shallow n g name x le)
stepped_shallow n g Children x le = below_shallow n x.at x.child le
stepped_shallow n g All x le = kid_shallow n x.at x.child le

all_stepped : (n : ℕ) (g : Grammar) (step : Step) (xs : List Found) → AreShallow n xs → AreShallow n (flat_map (stepped g step) xs)
all_stepped n g step [] h = tt
all_stepped n g step (x ∷ xs) h = both n (stepped g step x) (flat_map (stepped g step) xs) (stepped_shallow n g step x h.0) (all_stepped n g step xs h.1)

from_all : (n : ℕ) (g : Grammar) (steps : List Step) (xs : List Found) → AreShallow n xs → AreShallow n (members g steps xs)
from_all n g [] xs h = h
from_all n g (step ∷ steps) xs h = from_all n g steps (flat_map (stepped g step) xs) (all_stepped n g step xs h)

pub members_shallow : MembersAreShallow
members_shallow g steps one = from_all (tree_levels one) g steps (found 0 (whole one) ∷ []) (omega arith, tt)
