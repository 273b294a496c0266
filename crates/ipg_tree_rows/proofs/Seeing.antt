-- Rows as a walk sees them.
use Rattle.std.proofs.Common.{◌≡◌, ℕ, ◌+◌, List, [], ◌∷◌, ◌++◌, Some, None, refl, sym, ap, ◌∙◌, subst}
use Rattle.std.proofs.Common.{append_assoc, append-nil, flat_map}
use Rattle.ipg_core.specs.Tree as tree
use Rattle.ipg_core.specs.Tree.{Tree}
use Rattle.ipg_mach_nodes.specs.declared.kid.Kid.{Kid}
use Rattle.ipg_mach_nodes.specs.declared.kid.Kid.TheVariants as row
use Rattle.ipg_mach_nodes.specs.Stored.{Stored, Source, StandsKid}
use Rattle.ipg_tree_walk.specs.declared.walk.Visit.{Visit}
use Rattle.ipg_tree_walk.specs.Left.{NodeOf, StandsNode, Shows}
use Rattle.ipg_tree_walk.specs.Parse.{Walked, Left}
use Rattle.ipg_tree_walk.specs.Visits.{Seen, visits, from_of}
use Rattle.ipg_tree_rows.specs.declared.row.TreeRow.{TreeRow}
use Rattle.ipg_tree_rows.specs.Rows.{head_rows, child_rows, rows_seen, rows_of}

-- the rows of visits, one after another
abbrev pub all_rows : List Seen → List TreeRow
all_rows [] = []
all_rows (one ∷ more) = rows_seen one ++ all_rows more

-- ---- nodes

abbrev pub IsNodeRow : Kid → Type 0
IsNodeRow (row.Node id from to) = Unit {0}
IsNodeRow (row.Text n from to) = ⊥
IsNodeRow (row.Number prim from to high low) = ⊥
IsNodeRow (row.Raw from to) = ⊥
IsNodeRow (row.Array n items) = ⊥
IsNodeRow (row.Many n items) = ⊥

-- a tree stands at the node of a visit, and these are its rows
pub record TreeSeen (src : Source) (st : Stored) (visit : Visit) (rows : List TreeRow) : Type 0 where
  pub at : ℕ
  pub one : Tree
  pub stands : StandsNode src st at visit.node one
  pub is : head_rows visit.depth visit.from one ≡ rows

tree_seen_at : (src : Source) (st : Stored) (visit : Visit) (depth at size : ℕ) (k : tree.Kid) → IsNodeRow visit.kid → visit.depth ≡ depth
    → visit.from ≡ at + from_of k → StandsKid src st at visit.kid k → NodeOf st visit.kid visit.node
    → TreeSeen src st visit (child_rows depth at size k)
tree_seen_at src st visit depth at size (tree.Sub from to sub) is ed ef stands node = record {
  at = at + from;
  one = sub;
  stands = record { id = stands.0; is_at = node stands.0 from to stands.1; stands = stands.2 };
  is = ap (λ d. head_rows d visit.from sub) ed ∙ ap (λ a. head_rows depth a sub) ef;
}
tree_seen_at src st visit depth at size (tree.Token from to bytes) is ed ef stands node = absurd (subst IsNodeRow stands.1 is)
tree_seen_at src st visit depth at size (tree.Number from to prim high low) is ed ef stands node = absurd (subst IsNodeRow stands is)
tree_seen_at src st visit depth at size (tree.Raw from to bytes) is ed ef stands node = absurd (subst IsNodeRow stands.0 is)
tree_seen_at src st visit depth at size (tree.Array sym items) is ed ef stands node = absurd (subst IsNodeRow stands.3 is)
tree_seen_at src st visit depth at size (tree.Many sym items) is ed ef stands node = absurd (subst IsNodeRow stands.3 is)

pub tree_seen : (src : Source) (st : Stored) (visit : Visit) (one : Seen) → IsNodeRow visit.kid → Shows src st visit one
    → TreeSeen src st visit (rows_seen one)
tree_seen src st visit one is h = tree_seen_at src st visit one.depth one.at one.size one.child is h.depth h.from h.stands h.node

-- ---- a walk

-- these are the rows of the visits so far, and what is left gives the rest
pub record SoFar (src : Source) (p : Walked) (before rows whole : List TreeRow) : Type 0 where
  pub rest : List Seen
  pub left : Left src p rest
  pub is : rows ++ all_rows rest ≡ before ++ whole

pub flat : (seen : List Seen) → flat_map rows_seen seen ≡ all_rows seen
flat [] = refl
flat (one ∷ seen) = ap (λ these. rows_seen one ++ these) (flat seen)

pub begin : (src : Source) (p : Walked) (before rows : List TreeRow) (one : Tree) → Left src p (visits one) → rows ≡ before
    → SoFar src p before rows (rows_of one)
begin src p before rows one left same = record {
  rest = visits one;
  left = left;
  is = ap (λ these. these ++ all_rows (visits one)) same ∙ ap (λ these. before ++ these) (sym (flat (visits one)));
}

-- what the next visit came to
pub record Next (src : Source) (p next : Walked) (visit : Visit) (before rows whole : List TreeRow) : Type 0 where
  pub first : Seen
  pub shows : Shows src p.parse.store visit first
  pub behind : (to : List TreeRow) → to ≡ rows ++ rows_seen first → SoFar src next before to whole

module _ (src : Source) (p next : Walked) (before rows whole : List TreeRow) where
  one_more : (first : Seen) (more : List Seen) → rows ++ all_rows (first ∷ more) ≡ before ++ whole → Left src next more
      → (to : List TreeRow) → to ≡ rows ++ rows_seen first → SoFar src next before to whole
  one_more first more is left to made = record {
    rest = more;
    left = left;
    is = ap (λ these. these ++ all_rows more) made ∙ append_assoc rows (rows_seen first) (all_rows more) ∙ is;
  }

  by_rest : (visit : Visit) (rest : List Seen) → (Left src p [] → Some visit ≡ None)
      → ((one : Seen) (more : List Seen) → Left src p (one ∷ more) → Shows src p.parse.store visit one × Left src next more)
      → Left src p rest → rows ++ all_rows rest ≡ before ++ whole → Next src p next visit before rows whole
  by_rest visit [] end go left is = let no = end left in absurd (cc)
  by_rest visit (first ∷ more) end go left is =
      let both = go first more left in
      record { first = first; shows = both.0; behind = one_more first more is both.1 }

  pub visited : (visit : Visit) → (Left src p [] → Some visit ≡ None)
      → ((one : Seen) (more : List Seen) → Left src p (one ∷ more) → Shows src p.parse.store visit one × Left src next more)
      → SoFar src p before rows whole → Next src p next visit before rows whole
  visited visit end go so_far = by_rest visit so_far.rest end go so_far.left so_far.is

  none_left : (rest : List Seen) → ((one : Seen) (more : List Seen) → Left src p (one ∷ more) → ⊥ × Left src next more) → Left src p rest
      → rows ++ all_rows rest ≡ before ++ whole → rows ≡ before ++ whole
  none_left [] go left is = sym (append-nil rows) ∙ is
  none_left (first ∷ more) go left is = absurd ((go first more left).0)

  pub all_seen : ((one : Seen) (more : List Seen) → Left src p (one ∷ more) → ⊥ × Left src next more) → SoFar src p before rows whole
      → rows ≡ before ++ whole
  all_seen go so_far = none_left so_far.rest go so_far.left so_far.is
