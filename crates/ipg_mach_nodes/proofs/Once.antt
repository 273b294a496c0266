-- A place of a store has one tree.
use Rattle.std.proofs.Common.{◌≡◌, ℕ, ◌+◌, ℤ, refl, sym, ap, ◌∙◌, subst, List, [], ◌∷◌, Option, Some}
use Rattle.std.specs.Prelude.{slice_get}
use Rattle.ipg_core.specs.declared.grammar.Sym.{Sym}
use Rattle.ipg_core.specs.declared.grammar.Sym.TheVariants.{Text}
use Rattle.ipg_core.specs.Part.{part}
use Rattle.ipg_core.specs.Tree as tree
use Rattle.ipg_core.specs.Tree.{Tree, Kids, no_kids, kid}
use Rattle.ipg_region.specs.declared.region.RunId.{RunId}
use Rattle.ipg_mach_nodes.specs.declared.kid.Kid.{Kid}
use Rattle.ipg_mach_nodes.specs.declared.kid.Kid.TheVariants as row
use Rattle.ipg_mach_nodes.specs.declared.kid.Node.{Node}
use Rattle.ipg_mach_nodes.specs.declared.kid.Head.{Head}
use Rattle.ipg_mach_nodes.specs.Stored.{Stored, Source, HasNode, StandsTree, StandsKid, StandKids}
use Rattle.ipg_mach_nodes.specs.Laws.{OneTree, OneKid, OneList}

some_same : {A : Type 0} (found : Option A) (a b : A) → found ≡ Some a → found ≡ Some b → a ≡ b
some_same found a b h k = cc

head_same : {A : Type 0} (a b : A) → (let xs : List A = a ∷ [] in let ys : List A = b ∷ [] in xs ≡ ys) → a ≡ b
head_same a b e = cc

-- the nodes are one, and so all that hangs on them
node_same : (st : Stored) (id : RunId) (h k : Head) (m n : ℕ) (a b : List (ℕ × ℤ)) (x y : List Kid) (one : HasNode st id h m a x)
    (other : HasNode st id k n b y)
    → one.node ≡ other.node
node_same st id h k m n a b x y one other = head_same _ _ (some_same (slice_get st.nodes id.place) _ _ one.is_node other.is_node)

same_head : (st : Stored) (id : RunId) (h k : Head) (m n : ℕ) (a b : List (ℕ × ℤ)) (x y : List Kid) → HasNode st id h m a x → HasNode st id k n b y → h ≡ k
same_head st id h k m n a b x y one other = sym one.is_head ∙ ap (λ (n : Node). n.head) (node_same st id h k m n a b x y one other) ∙ other.is_head

same_attrs : (st : Stored) (id : RunId) (h k : Head) (m n : ℕ) (a b : List (ℕ × ℤ)) (x y : List Kid) → HasNode st id h m a x → HasNode st id k n b y → a ≡ b
same_attrs st id h k m n a b x y one other =
    some_same _ _ _ one.are_attrs (ap (λ (n : Node). slice_get st.attrs n.attrs.place) (node_same st id h k m n a b x y one other) ∙ other.are_attrs)

same_list : (st : Stored) (id : RunId) (h k : Head) (m n : ℕ) (a b : List (ℕ × ℤ)) (x y : List Kid) → HasNode st id h m a x → HasNode st id k n b y → x ≡ y
same_list st id h k m n a b x y one other =
    some_same _ _ _ one.are_kids (ap (λ (n : Node). slice_get st.kids n.kids.place) (node_same st id h k m n a b x y one other) ∙ other.are_kids)

node_by : (h k : Head) (a b : List (ℕ × ℤ)) (x y : Kids) → h ≡ k → a ≡ b → x ≡ y
    → tree.Node h.rule h.size a h.start h.end x ≡ tree.Node k.rule k.size b k.start k.end y
node_by h k a b x y heads attrs kids =
    ap (λ (m : Head). tree.Node m.rule m.size a m.start m.end x) heads
    ∙ ap (λ vs. tree.Node k.rule k.size vs k.start k.end x) attrs
    ∙ ap (tree.Node k.rule k.size b k.start k.end) kids

-- what a row says, read off it

abbrev from_of : Kid → ℕ
from_of (row.Node id from to) = from
from_of (row.Text n from to) = from
from_of (row.Number prim from to high low) = from
from_of (row.Raw from to) = from
from_of (row.Array n items) = 0
from_of (row.Many n items) = 0

abbrev to_of : Kid → ℕ
to_of (row.Node id from to) = to
to_of (row.Text n from to) = to
to_of (row.Number prim from to high low) = to
to_of (row.Raw from to) = to
to_of (row.Array n items) = 0
to_of (row.Many n items) = 0

-- the number of its symbol, or where its node or its items are
abbrev number_of : Kid → ℕ
number_of (row.Node id from to) = 0
number_of (row.Text n from to) = n
number_of (row.Number prim from to high low) = 0
number_of (row.Raw from to) = 0
number_of (row.Array n items) = n
number_of (row.Many n items) = n

abbrev place_of : Kid → RunId
place_of (row.Node id from to) = id
place_of (row.Text n from to) = record { place = 0 }
place_of (row.Number prim from to high low) = record { place = 0 }
place_of (row.Raw from to) = record { place = 0 }
place_of (row.Array n items) = items
place_of (row.Many n items) = items

abbrev as_number : Kid → tree.Kid
as_number (row.Node id from to) = tree.Raw 0 0 []
as_number (row.Text n from to) = tree.Raw 0 0 []
as_number (row.Number prim from to high low) = tree.Number from to prim high low
as_number (row.Raw from to) = tree.Raw 0 0 []
as_number (row.Array n items) = tree.Raw 0 0 []
as_number (row.Many n items) = tree.Raw 0 0 []

abbrev kind_of : Kid → ℕ
kind_of (row.Node id from to) = 0
kind_of (row.Text n from to) = 1
kind_of (row.Number prim from to high low) = 2
kind_of (row.Raw from to) = 3
kind_of (row.Array n items) = 4
kind_of (row.Many n items) = 5

abbrev tree_kind : tree.Kid → ℕ
tree_kind (tree.Sub from to sub) = 0
tree_kind (tree.Token from to bytes) = 1
tree_kind (tree.Number from to prim high low) = 2
tree_kind (tree.Raw from to bytes) = 3
tree_kind (tree.Array one items) = 4
tree_kind (tree.Many one items) = 5

module _ (src : Source) (st : Stored) where
  same_kind : (at : ℕ) (r : Kid) (one : tree.Kid) → StandsKid src st at r one → kind_of r ≡ tree_kind one
  same_kind at r (tree.Sub from to sub) h = ap kind_of h.1
  same_kind at r (tree.Token from to bytes) h = ap kind_of h.1
  same_kind at r (tree.Number from to prim high low) h = ap kind_of h
  same_kind at r (tree.Raw from to bytes) h = ap kind_of h.0
  same_kind at r (tree.Array one items) h = ap kind_of h.3
  same_kind at r (tree.Many one items) h = ap kind_of h.3

  same_text : (n m : ℕ) (a b : List ℕ) → n ≡ m → slice_get src.syms n ≡ Some (Text a) → slice_get src.syms m ≡ Some (Text b) → a ≡ b
  same_text n m a b e h k = let same = some_same _ _ _ h (ap (slice_get src.syms) e ∙ k) in cc

  same_sym : (n m : ℕ) (a b : Sym) → n ≡ m → slice_get src.syms n ≡ Some a → slice_get src.syms m ≡ Some b → a ≡ b
  same_sym n m a b e h k = some_same _ _ _ h (ap (slice_get src.syms) e ∙ k)

  same_items : (x y : RunId) (a b : List Kid) → x ≡ y → slice_get st.kids x.place ≡ Some a → slice_get st.kids y.place ≡ Some b → a ≡ b
  same_items x y a b e h k = some_same _ _ _ h (ap (λ (run : RunId). slice_get st.kids run.place) e ∙ k)

  mutual
    tree_once : (at : ℕ) (id : RunId) (one other : Tree) → StandsTree src st at id one → StandsTree src st at id other → one ≡ other
    tree_once at id (tree.Node rule size attrs start end kids) (tree.Node rule' size' attrs' start' end' kids') h k =
        node_by (record { rule = rule; size = size; start = start; end = end })
        (record { rule = rule'; size = size'; start = start'; end = end' }) attrs attrs' kids kids'
        (same_head st id _ _ _ _ attrs attrs' h.0 k.0 h.1 k.1)
        (same_attrs st id _ _ _ _ attrs attrs' h.0 k.0 h.1 k.1)
        (kids_once at k.0 kids kids' (subst (λ list. StandKids src st at list kids) (same_list st id _ _ _ _ attrs attrs' h.0 k.0 h.1 k.1) h.2) k.2)

    kids_once : (at : ℕ) (list : List Kid) (one other : Kids) → StandKids src st at list one → StandKids src st at list other → one ≡ other
    kids_once at [] no_kids no_kids h k = refl
    kids_once at (r ∷ rows) (kid one ones) (kid other others) h k =
        ap (λ x. kid x ones) (kid_once at r one other h.0 k.0) ∙ ap (kid other) (kids_once at rows ones others h.1 k.1)
    kids_once at [] no_kids (kid other others) h k = absurd k
    kids_once at [] (kid one ones) other h k = absurd h
    kids_once at (r ∷ rows) no_kids other h k = absurd h
    kids_once at (r ∷ rows) (kid one ones) no_kids h k = absurd k

    kid_once : (at : ℕ) (r : Kid) (one other : tree.Kid) → StandsKid src st at r one → StandsKid src st at r other → one ≡ other
    kid_once at r (tree.Sub from to sub) (tree.Sub from' to' sub') h k =
        let e = sym h.1 ∙ k.1 in
        let begins : from ≡ from' = ap from_of e in
        let ends : to ≡ to' = ap to_of e in
        let there : StandsTree src st (at + from) h.0 sub' = subst (λ x. StandsTree src st (at + from_of x) (place_of x) sub') (sym e) k.2 in
        ap (λ x. tree.Sub x to sub) begins ∙ ap (λ x. tree.Sub from' x sub) ends ∙ ap (tree.Sub from' to') (tree_once (at + from) h.0 sub sub' h.2 there)
    kid_once at r (tree.Token from to bytes) (tree.Token from' to' bytes') h k =
        let e = sym h.1 ∙ k.1 in
        let begins : from ≡ from' = ap from_of e in
        let ends : to ≡ to' = ap to_of e in
        let same = same_text h.0 k.0 bytes bytes' (ap number_of e) h.2 k.2 in
        ap (λ x. tree.Token x to bytes) begins ∙ ap (λ x. tree.Token from' x bytes) ends ∙ ap (tree.Token from' to') same
    kid_once at r (tree.Number from to prim high low) (tree.Number from' to' prim' high' low') h k = ap as_number (sym h ∙ k)
    kid_once at r (tree.Raw from to bytes) (tree.Raw from' to' bytes') h k =
        let e = sym h.0 ∙ k.0 in
        let begins : from ≡ from' = ap from_of e in
        let ends : to ≡ to' = ap to_of e in
        let same : bytes ≡ bytes' = sym h.1 ∙ ap (λ x. part src.input (at + from_of x) (at + to_of x)) e ∙ k.1 in
        ap (λ x. tree.Raw x to bytes) begins ∙ ap (λ x. tree.Raw from' x bytes) ends ∙ ap (tree.Raw from' to') same
    kid_once at r (tree.Array one items) (tree.Array other items') h k =
        let e = sym h.3 ∙ k.3 in
        let same = same_sym h.0 k.0 one other (ap number_of e) h.4 k.4 in
        let list = same_items h.1 k.1 h.2 k.2 (ap place_of e) h.5 k.5 in
        let there : StandKids src st at h.2 items' = subst (λ x. StandKids src st at x items') (sym list) k.6 in
        ap (λ x. tree.Array x items) same ∙ ap (tree.Array other) (kids_once at h.2 items items' h.6 there)
    kid_once at r (tree.Many one items) (tree.Many other items') h k =
        let e = sym h.3 ∙ k.3 in
        let same = same_sym h.0 k.0 one other (ap number_of e) h.4 k.4 in
        let list = same_items h.1 k.1 h.2 k.2 (ap place_of e) h.5 k.5 in
        let there : StandKids src st at h.2 items' = subst (λ x. StandKids src st at x items') (sym list) k.6 in
        ap (λ x. tree.Many x items) same ∙ ap (tree.Many other) (kids_once at h.2 items items' h.6 there)
    kid_once at r one other h k = let e = sym (same_kind at r one h) ∙ same_kind at r other k in absurd (cc)

pub one_tree : OneTree
one_tree src st at id one other h k = tree_once src st at id one other h k

pub one_kid : OneKid
one_kid src st at r one other h k = kid_once src st at r one other h k

pub one_list : OneList
one_list src st at list one other h k = kids_once src st at list one other h k
