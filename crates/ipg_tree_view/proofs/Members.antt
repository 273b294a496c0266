-- What is written of members of a path, one by one.
use Rattle.std.proofs.Common.{◌≡◌, ℕ, ◌+◌, ◌<◌, ◌≤◌, List, [], ◌∷◌, length, get_or, drop, flat_map}
use Rattle.std.proofs.Common.{refl, sym, ap, ◌∙◌, subst, Option, Some, None, add-one, arith}
use Rattle.std.proofs.Math.Seq.{drop-cons}
use Rattle.std.proofs.lemmas.List.{drop_all}
use Rattle.ipg_core.specs.Grammar.{Grammar}
use Rattle.ipg_core.specs.Tree as tree
use Rattle.ipg_core.specs.Tree.{Tree, Node, rule_of, attrs_of}
use Rattle.ipg_region.specs.declared.region.RunId.{RunId}
use Rattle.ipg_mach_nodes.specs.declared.kid.Kid.{Kid}
use Rattle.ipg_mach_nodes.specs.declared.kid.Kid.TheVariants as row
use Rattle.ipg_mach_nodes.specs.Stored.{Stored, Source, StandsKid, StandsTree, kid_levels}
use Rattle.ipg_tree_walk.specs.Visits.{Seen, seen, kid_visits, kids_visits, kids_in, place_in, size_in, size_of}
use Rattle.ipg_query.specs.declared.inside.Deep.{Deep}
use Rattle.ipg_query.specs.declared.spot.Spot.{Spot}
use Rattle.ipg_query.specs.Inside.{Walked, Leave, IsDeep, visits_of}
use Rattle.ipg_query.specs.Laws.{AreShallow}
use Rattle.ipg_query.specs.Picked.{Found}
use Rattle.ipg_query.specs.Spots.{IsSpot, AreSpots}
use Rattle.ipg_tree_view.specs.View.{line, node_text, tree_head, kid_view}
use Rattle.ipg_outside.specs.Sink.{Output}
use Rattle.ipg_tree.specs.Putting.{Progress}
use Rattle.std.specs.Prelude.{ℤ}

-- what is said of a node is what is said of its tree
pub tree_head_is : (g : Grammar) (one : Tree) (depth at rule size : ℕ) (attrs : List (ℕ × ℤ)) → rule ≡ rule_of one → size ≡ size_of one → attrs ≡ attrs_of one
    → line at [] (node_text g depth at rule size attrs) ≡ tree_head g depth at one
tree_head_is g (Node r s set start end kids) depth at rule size attrs er es ea =
    ap (λ n. line at [] (node_text g depth at n size attrs)) er ∙ ap (λ n. line at [] (node_text g depth at r n attrs)) es
    ∙ ap (λ these. line at [] (node_text g depth at r s these)) ea

-- ---- nodes

abbrev pub IsNodeOf : Kid → RunId → ℕ → Type 0
IsNodeOf (row.Node i f t) id from = (i ≡ id) × (f ≡ from)
IsNodeOf (row.Text n f t) id from = ⊥
IsNodeOf (row.Number prim f t high low) id from = ⊥
IsNodeOf (row.Raw f t) id from = ⊥
IsNodeOf (row.Array n items) id from = ⊥
IsNodeOf (row.Many n items) id from = ⊥

-- a tree stands at the node that a walk comes to, and this is its line
pub record NodeSeen (src : Source) (st : Stored) (g : Grammar) (deep : Deep) (id : RunId) (from : ℕ) (text : List ℕ) : Type 0 where
  pub at : ℕ
  pub one : Tree
  pub stands : StandsTree src st at id one
  pub is : tree_head g deep.depth (deep.spot.at + from) one ≡ text

module _ (src : Source) (st : Stored) (g : Grammar) (input : List ℕ) (deep : Deep) (id : RunId) (from : ℕ) where
  node_seen_at : (depth at : ℕ) (k : tree.Kid) → IsNodeOf deep.spot.kid id from → deep.depth ≡ depth → deep.spot.at ≡ at
      → StandsKid src st deep.spot.at deep.spot.kid k → NodeSeen src st g deep id from (kid_view g input depth at k)
  node_seen_at depth at (tree.Sub f t sub) is ed ea stands =
      let same = subst (λ k. IsNodeOf k id from) stands.1 is in
      record {
        at = deep.spot.at + f;
        one = sub;
        stands = subst (λ i. StandsTree src st (deep.spot.at + f) i sub) same.0 stands.2;
        is = ap (λ d. tree_head g d (deep.spot.at + from) sub) ed ∙ ap (λ n. tree_head g depth (deep.spot.at + n) sub) (sym same.1)
            ∙ ap (λ a. tree_head g depth (a + f) sub) ea;
      }
  node_seen_at depth at (tree.Token f t bytes) is ed ea stands = absurd (subst (λ k. IsNodeOf k id from) stands.1 is)
  node_seen_at depth at (tree.Number f t prim high low) is ed ea stands = absurd (subst (λ k. IsNodeOf k id from) stands is)
  node_seen_at depth at (tree.Raw f t bytes) is ed ea stands = absurd (subst (λ k. IsNodeOf k id from) stands.0 is)
  node_seen_at depth at (tree.Array sym items) is ed ea stands = absurd (subst (λ k. IsNodeOf k id from) stands.3 is)
  node_seen_at depth at (tree.Many sym items) is ed ea stands = absurd (subst (λ k. IsNodeOf k id from) stands.3 is)

  pub node_seen : (one : Seen) (to : ℕ) → deep.spot.kid ≡ row.Node id from to → IsDeep src st deep one
      → NodeSeen src st g deep id from (kid_view g input one.depth one.at one.child)
  node_seen one to is h =
      node_seen_at one.depth one.at one.child (subst (λ k. IsNodeOf k id from) (sym is) (refl, refl)) h.depth h.spot.at h.spot.stands

-- ---- walks

its_visits : (at : ℕ) (one : tree.Kid) → kid_visits 0 at 0 one ≡ seen 0 at 0 one ∷ kids_visits 1 (place_in at one) (size_in 0 one) (kids_in one)
its_visits at (tree.Sub from to (tree.Node rule size attrs start end kids)) = refl
its_visits at (tree.Token from to bytes) = refl
its_visits at (tree.Number from to prim high low) = refl
its_visits at (tree.Raw from to bytes) = refl
its_visits at (tree.Array sym items) = refl
its_visits at (tree.Many sym items) = refl

-- a result itself, and what is visited behind it
abbrev pub first_visit : Found → Seen
first_visit x = seen 0 x.at 0 x.child

abbrev pub later_visits : Found → List Seen
later_visits x = kids_visits 1 (place_in x.at x.child) (size_in 0 x.child) (kids_in x.child)

pub visits_are : (x : Found) → visits_of 0 x ≡ first_visit x ∷ later_visits x
visits_are x = its_visits x.at x.child

-- what was left began with what the walk came to
pub record Came (src : Source) (st : Stored) (behind : Walked) (deep : Deep) (left : List Seen) : Type 0 where
  pub first : Seen
  pub more : List Seen
  pub is : left ≡ first ∷ more
  pub is_deep : IsDeep src st deep first
  pub leave : Leave src st behind.room behind.levels more

pub came : (src : Source) (st : Stored) (walk behind : Walked) (deep : Deep) (left : List Seen)
    → (Leave src st walk.room walk.levels [] → Some deep ≡ None)
    → ((one : Seen) (more : List Seen) → Leave src st walk.room walk.levels (one ∷ more)
    → IsDeep src st deep one × Leave src st behind.room behind.levels more)
    → Leave src st walk.room walk.levels left → Came src st behind deep left
came src st walk behind deep [] end go h = let no = end h in absurd (cc)
came src st walk behind deep (one ∷ more) end go h =
    let both = go one more h in
    record { first = one; more = more; is = refl; is_deep = both.0; leave = both.1 }

-- where it comes to nothing nothing was left
pub all_seen : (src : Source) (st : Stored) (walk behind : Walked) (left : List Seen)
    → ((one : Seen) (more : List Seen) → Leave src st walk.room walk.levels (one ∷ more) → ⊥ × Leave src st behind.room behind.levels more)
    → Leave src st walk.room walk.levels left → left ≡ []
all_seen src st walk behind [] go h = refl
all_seen src st walk behind (one ∷ more) go h = absurd (go one more h).0

-- ---- spots, one by one

-- these results are left of spots that are gone over
pub record SpotsLeft (src : Source) (st : Stored) (room : ℕ) (f : Found → List ℕ) (spots : List Spot) (text : List ℕ)
    (a : Option Output) (m : ℕ) (b : Option Output) (n : ℕ) : Type 0 where
  pub left : List Found
  pub are_spots : AreSpots src st spots left
  pub are_shallow : AreShallow room left
  pub so_far : Progress text (flat_map f left) a m b n

pub record NextSpot (src : Source) (st : Stored) (room : ℕ) (spot : Spot) (spots : List Spot) (left : List Found) : Type 0 where
  pub first : Found
  pub more : List Found
  pub is : left ≡ first ∷ more
  pub is_spot : IsSpot src st spot first
  pub is_shallow : kid_levels first.child ≤ room
  pub are_spots : AreSpots src st spots more
  pub are_shallow : AreShallow room more

by_next : (src : Source) (st : Stored) (room : ℕ) (spot : Spot) (spots : List Spot) (left : List Found) → AreSpots src st (spot ∷ spots) left
    → AreShallow room left → NextSpot src st room spot spots left
by_next src st room spot spots [] h s = absurd h
by_next src st room spot spots (x ∷ more) h s =
    record { first = x; more = more; is = refl; is_spot = h.0; is_shallow = s.0; are_spots = h.1; are_shallow = s.1 }

pub next_spot : (src : Source) (st : Stored) (room : ℕ) (spots : List Spot) (i : ℕ) (d : Spot) (left : List Found) → i < length spots
    → AreSpots src st (drop i spots) left → AreShallow room left → NextSpot src st room (get_or spots i d) (drop (i + 1) spots) left
next_spot src st room spots i d left less h s =
    by_next src st room (get_or spots i d) (drop (i + 1) spots) left
    (subst (λ these. AreSpots src st these left) (drop-cons spots i d less ∙ ap (λ k. get_or spots i d ∷ drop k spots) (sym (add-one i))) h) s

none_left : (src : Source) (st : Stored) (left : List Found) → AreSpots src st [] left → left ≡ []
none_left src st [] h = refl
none_left src st (x ∷ left) h = absurd h

pub no_spot : (src : Source) (st : Stored) (spots : List Spot) (i : ℕ) (left : List Found) → length spots ≤ i → AreSpots src st (drop i spots) left → left ≡ []
no_spot src st spots i left all h = none_left src st left (subst (λ these. AreSpots src st these left) (drop_all i spots all) h)

-- with more room
pub shallower : (m n : ℕ) (xs : List Found) → m ≤ n → AreShallow m xs → AreShallow n xs
shallower m n [] le h = tt
shallower m n (x ∷ xs) le h = (let here = h.0 in omega (arith, here, le), shallower m n xs le h.1)
