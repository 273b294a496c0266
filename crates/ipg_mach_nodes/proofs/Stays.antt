-- A tree stays where it stands as the store grows.
use Rattle.std.proofs.Common.{◌≡◌, ℕ, zero, suc, ◌+◌, ℤ, subst, List, [], ◌∷◌, ◌++◌, Some}
use Rattle.std.specs.Prelude.{slice_get}
use Rattle.ipg_core.specs.Tree as tree
use Rattle.ipg_core.specs.Tree.{Tree, Kids, no_kids, kid}
use Rattle.ipg_region.specs.declared.region.RunId.{RunId}
use Rattle.ipg_mach_nodes.specs.declared.kid.Kid.{Kid}
use Rattle.ipg_mach_nodes.specs.declared.kid.Head.{Head}
use Rattle.ipg_mach_nodes.specs.Stored.{Stored, Source, HasNode, StandsTree, StandsKid, StandKids}
use Rattle.ipg_mach_nodes.specs.Laws.{Grows, TreesStay, KidsStay}

get_more : {A : Type 0} (xs rest : List A) (n : ℕ) (a : A) → slice_get xs n ≡ Some a → slice_get (xs ++ rest) n ≡ Some a
get_more [] rest n a e = absurd (cc)
get_more (x ∷ xs) rest zero a e = e
get_more (x ∷ xs) rest (suc n) a e = get_more xs rest n a e

get_grown : {A : Type 0} (xs ys : List A) (n : ℕ) (a : A) → (rest : List A) × (xs ++ rest ≡ ys) → slice_get xs n ≡ Some a → slice_get ys n ≡ Some a
get_grown xs ys n a more e = subst (λ zs. slice_get zs n ≡ Some a) more.1 (get_more xs more.0 n a e)

module _ (src : Source) (st more : Stored) (grows : Grows st more) where
  node_stays : (id : RunId) (head : Head) (levels : ℕ) (attrs : List (ℕ × ℤ)) (list : List Kid) → HasNode st id head levels attrs list
      → HasNode more id head levels attrs list
  node_stays id head levels attrs list has = record {
    node = has.node;
    is_node = get_grown st.nodes more.nodes id.place _ grows.nodes has.is_node;
    is_head = has.is_head;
    are_levels = has.are_levels;
    are_attrs = get_grown st.attrs more.attrs has.node.attrs.place _ grows.attrs has.are_attrs;
    are_kids = get_grown st.kids more.kids has.node.kids.place _ grows.kids has.are_kids;
  }

  mutual
    tree_stays : (at : ℕ) (id : RunId) (one : Tree) → StandsTree src st at id one → StandsTree src more at id one
    tree_stays at id (tree.Node rule size attrs start end kids) h = (h.0, node_stays id _ _ attrs h.0 h.1, kids_stay_in at h.0 kids h.2)

    kids_stay_in : (at : ℕ) (list : List Kid) (ones : Kids) → StandKids src st at list ones → StandKids src more at list ones
    kids_stay_in at [] no_kids h = tt
    kids_stay_in at (r ∷ rows) (kid one ones) h = (kid_stays at r one h.0, kids_stay_in at rows ones h.1)
    kids_stay_in at [] (kid one ones) h = absurd h
    kids_stay_in at (r ∷ rows) no_kids h = absurd h

    kid_stays : (at : ℕ) (r : Kid) (one : tree.Kid) → StandsKid src st at r one → StandsKid src more at r one
    kid_stays at r (tree.Sub from to sub) h = (h.0, h.1, tree_stays (at + from) h.0 sub h.2)
    kid_stays at r (tree.Token from to bytes) h = h
    kid_stays at r (tree.Number from to prim high low) h = h
    kid_stays at r (tree.Raw from to bytes) h = h
    kid_stays at r (tree.Array one items) h =
        (h.0, h.1, h.2, h.3, h.4, get_grown st.kids more.kids h.1.place _ grows.kids h.5, kids_stay_in at h.2 items h.6)
    kid_stays at r (tree.Many one items) h =
        (h.0, h.1, h.2, h.3, h.4, get_grown st.kids more.kids h.1.place _ grows.kids h.5, kids_stay_in at h.2 items h.6)

pub trees_stay : TreesStay
trees_stay src st more at id one grows h = tree_stays src st more grows at id one h

pub kids_stay : KidsStay
kids_stay src st more at r one grows h = kid_stays src st more grows at r one h
