-- A walk over a tree sees its leaves one by one, each near enough.
use Rattle.std.proofs.Common.{◌≡◌, ℕ, ◌+◌, ◌-◌, ◌≤◌, ◌^◌, List, [], ◌∷◌, ◌++◌, length, Some, None, sym, ap, ◌∙◌, arith}
use Rattle.std.proofs.Common.{append_assoc, append-nil}
use Rattle.std.specs.List.{AllByRecursion}
use Rattle.ipg_core.specs.Tree as tree
use Rattle.ipg_core.specs.Tree.{Tree, Kid, Kids, no_kids, kid}
use Rattle.ipg_core.specs.Within.{TreeWithin, KidWithin, KidsWithin}
use Rattle.ipg_mach_nodes.specs.Stored.{Source}
use Rattle.ipg_tree_walk.specs.declared.walk.Visit.{Visit}
use Rattle.ipg_tree_walk.specs.Left.{Shows}
use Rattle.ipg_tree_walk.specs.Parse.{Parse, Walked, Left}
use Rattle.ipg_tree_walk.specs.Visits.{Seen, visits, tree_visits, kid_visits, kids_visits, from_of}
use Rattle.ipg_cover_leaves.specs.declared.leaf.Leaf.{Leaf}
use Rattle.ipg_cover_leaves.specs.Leaves.{leaf_in, leaves_seen, leaves_of, IsTree}

-- it begins at a place of so many bytes
abbrev pub IsNear : ℕ → Seen → Type 0
IsNear most one = one.at + from_of one.child ≤ most

pub all_append : {X : Type 0} (P : X → Type 0) (xs ys : List X) → AllByRecursion P xs → AllByRecursion P ys → AllByRecursion P (xs ++ ys)
all_append P [] ys a b = b
all_append P (x ∷ xs) ys a b = (a.0, all_append P xs ys a.1 b)

module _ (most : ℕ) where
  mutual
    tree_near : (depth at n : ℕ) (one : Tree) → TreeWithin n one → at + n ≤ most → AllByRecursion (IsNear most) (tree_visits depth at one)
    tree_near depth at n (tree.Node rule size attrs start end kids) w less = kids_near depth at size n kids w.2 less

    kid_near : (depth at size n : ℕ) (one : Kid) → KidWithin n one → at + n ≤ most → AllByRecursion (IsNear most) (kid_visits depth at size one)
    kid_near depth at size n (tree.Sub from to sub) w less =
        (omega (arith, w.0.valid, w.0.inside, less), tree_near (depth + 1) (at + from) (to - from) sub w.1 (omega (arith, w.0.valid, w.0.inside, less)))
    kid_near depth at size n (tree.Token from to bytes) w less = (omega (arith, w.0.valid, w.0.inside, less), tt)
    kid_near depth at size n (tree.Number from to prim high low) w less = (omega (arith, w.0.valid, w.0.inside, less), tt)
    kid_near depth at size n (tree.Raw from to bytes) w less = (omega (arith, w.0.valid, w.0.inside, less), tt)
    kid_near depth at size n (tree.Array sym items) w less = (omega (arith, less), kids_near (depth + 1) at size n items w less)
    kid_near depth at size n (tree.Many sym items) w less = (omega (arith, less), kids_near (depth + 1) at size n items w less)

    kids_near : (depth at size n : ℕ) (ones : Kids) → KidsWithin n ones → at + n ≤ most → AllByRecursion (IsNear most) (kids_visits depth at size ones)
    kids_near depth at size n no_kids w less = tt
    kids_near depth at size n (kid one more) w less =
        all_append (IsNear most) (kid_visits depth at size one) (kids_visits depth at size more)
        (kid_near depth at size n one w.0 less) (kids_near depth at size n more w.1 less)

  visits_near : (n : ℕ) (one : Tree) → TreeWithin n one → n ≤ most → AllByRecursion (IsNear most) (visits one)
  visits_near n one w less = (omega arith, tree_near 1 0 n one w (omega (arith, less)))

-- these are the leaves of the visits so far, and what is left gives the rest
pub record SoFar (src : Source) (p : Walked) (leaves whole : List Leaf) : Type 0 where
  pub rest : List Seen
  pub left : Left src p rest
  pub near : AllByRecursion (IsNear (2 ^ 30)) rest
  pub is : leaves ++ leaves_seen rest ≡ whole

pub begin : (src : Source) (p : Walked) (leaves : List Leaf) (parse : Parse) (one : Tree) → IsTree parse src one → Left src p (visits one) → leaves ≡ []
    → SoFar src p leaves (leaves_of one)
begin src p leaves parse one is left none = record {
  rest = visits one;
  left = left;
  near = visits_near (2 ^ 30) (length parse.input) one is.within is.small;
  is = ap (λ these. these ++ leaves_of one) none;
}

-- what the next visit came to
pub record Next (src : Source) (p next : Walked) (visit : Visit) (leaves whole : List Leaf) : Type 0 where
  pub first : Seen
  pub shows : Shows src p.parse.store visit first
  pub near : IsNear (2 ^ 30) first
  pub behind : (to : List Leaf) → to ≡ leaves ++ leaf_in first.at first.child → SoFar src next to whole

module _ (src : Source) (p next : Walked) (leaves whole : List Leaf) where
  one_more : (first : Seen) (more : List Seen) → leaves ++ leaves_seen (first ∷ more) ≡ whole → Left src next more
      → AllByRecursion (IsNear (2 ^ 30)) more → (to : List Leaf) → to ≡ leaves ++ leaf_in first.at first.child → SoFar src next to whole
  one_more first more is left near to made = record {
    rest = more;
    left = left;
    near = near;
    is = ap (λ these. these ++ leaves_seen more) made ∙ append_assoc leaves (leaf_in first.at first.child) (leaves_seen more) ∙ is;
  }

  by_rest : (visit : Visit) (rest : List Seen) → (Left src p [] → Some visit ≡ None)
      → ((one : Seen) (more : List Seen) → Left src p (one ∷ more) → Shows src p.parse.store visit one × Left src next more)
      → Left src p rest → AllByRecursion (IsNear (2 ^ 30)) rest → leaves ++ leaves_seen rest ≡ whole → Next src p next visit leaves whole
  by_rest visit [] end go left near is = let no = end left in absurd (cc)
  by_rest visit (first ∷ more) end go left near is =
      let both = go first more left in
      record { first = first; shows = both.0; near = near.0; behind = one_more first more is both.1 near.1 }

  pub visited : (visit : Visit) → (Left src p [] → Some visit ≡ None)
      → ((one : Seen) (more : List Seen) → Left src p (one ∷ more) → Shows src p.parse.store visit one × Left src next more)
      → SoFar src p leaves whole → Next src p next visit leaves whole
  visited visit end go so_far = by_rest visit so_far.rest end go so_far.left so_far.near so_far.is

  none_left : (rest : List Seen) → ((one : Seen) (more : List Seen) → Left src p (one ∷ more) → ⊥ × Left src next more) → Left src p rest
      → leaves ++ leaves_seen rest ≡ whole → leaves ≡ whole
  none_left [] go left is = sym (append-nil leaves) ∙ is
  none_left (first ∷ more) go left is = absurd ((go first more left).0)

  pub all_seen : ((one : Seen) (more : List Seen) → Left src p (one ∷ more) → ⊥ × Left src next more) → SoFar src p leaves whole → leaves ≡ whole
  all_seen go so_far = none_left so_far.rest go so_far.left so_far.is
