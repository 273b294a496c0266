-- What visits and words come to one behind another.
use Rattle.std.proofs.Common.{◌≡◌, ℕ, ◌+◌, ◌<◌, ◌/◌, ◌%◌, List, [], ◌∷◌, ◌++◌, length, get_or, drop, map, refl, sym, ap, ◌∙◌, subst, Option, None, Some}
use Rattle.std.proofs.Common.{add-one, append_assoc}
use Rattle.std.specs.Prelude.{⊤, slice_index}
use Rattle.std.proofs.Math.Seq.{drop-cons}
use Rattle.std.proofs.lemmas.Option.{none-some, same_Some}
use Rattle.hex.specs.Hex.{encode_lower, encode_with, lower_digits}
use Rattle.ipg_core.specs.Tree as tree
use Rattle.ipg_core.specs.Tree.{Tree, Node, Kids, no_kids, kid, count_of}
use Rattle.ipg_mach_nodes.specs.declared.kid.Kid.{Kid}
use Rattle.ipg_mach_nodes.specs.declared.kid.Kid.TheVariants as row
use Rattle.ipg_mach_nodes.specs.declared.kid.Node.{Node as Row}
use Rattle.ipg_mach_nodes.specs.Stored.{Stored, Source, StandKids}
use Rattle.ipg_tree_walk.specs.declared.walk.Visit.{Visit}
use Rattle.ipg_tree_walk.specs.Visits.{Seen}
use Rattle.ipg_tree_walk.specs.Left.{StandsNode, Shows}
use Rattle.ipg_tree_walk.specs.Parse.{Walked, Left}
use Rattle.ipg_tree.specs.Line.{Says}
use Rattle.ipg_tree.specs.Words.{spaced}

-- no bytes have no digits
pub no_digits : encode_lower [] ≡ []
unfolding encode_with
no_digits = refl

-- the digits of bytes behind others
pub digits_append : (xs ys : List ℕ) → encode_lower (xs ++ ys) ≡ encode_lower xs ++ encode_lower ys
unfolding encode_with
digits_append [] ys = refl
digits_append (x ∷ xs) ys = ap (λ t. slice_index lower_digits (x / 16) ∷ slice_index lower_digits (x % 16) ∷ t) (digits_append xs ys)

pub next_spaced : {X : Type 0} (f : X → List ℕ) (xs : List X) (i : ℕ) (d : X) → i < length xs
    → spaced (map f (drop i xs)) ≡ (32 ∷ f (get_or xs i d)) ++ spaced (map f (drop (i + 1) xs))
next_spaced f xs i d h = ap (λ xs. spaced (map f xs)) (drop-cons xs i d h ∙ ap (λ k. get_or xs i d ∷ drop k xs) (sym (add-one i)))

-- a node says what the tree says that stands there
pub says : (src : Source) (st : Stored) (at : ℕ) (named : Option Row) (it : Row) (one : Tree) → named ≡ Some it
    → StandsNode src st at named one → Says st it one
says src st at named it (Node rule size attrs start end kids) is h =
    let has = h.stands.1 in
    let same : it ≡ has.node = same_Some it has.node (sym is ∙ h.is_at has.node has.is_node) in
    subst (λ n. Says st n (Node rule size attrs start end kids)) (sym same) (record {
      rule = ap (λ h. h.rule) has.is_head;
      size = ap (λ h. h.size) has.is_head;
      ends = ap (λ h. record { start = h.start; end = h.end }) has.is_head;
      attrs = has.are_attrs;
    })

-- what was left began with the visit
pub record Began (src : Source) (p next : Walked) (visit : Visit) (left : List Seen) : Type 0 where
  pub first : Seen
  pub more : List Seen
  pub is : left ≡ first ∷ more
  pub shows : Shows src p.parse.store visit first
  pub behind : Left src next more

pub began : (src : Source) (p next : Walked) (visit : Visit) (left : List Seen) → (Left src p [] → Some visit ≡ None)
    → ((one : Seen) (more : List Seen) → Left src p (one ∷ more) → Shows src p.parse.store visit one × Left src next more)
    → Left src p left → Began src p next visit left
began src p next visit [] end go h = absurd (none-some visit (sym (end h)))
began src p next visit (one ∷ more) end go h = let both = go one more h in record { first = one; more = more; is = refl; shows = both.0; behind = both.1 }

-- where no visit comes nothing was left
pub ended_at : (src : Source) (p next : Walked) (left : List Seen) → ((one : Seen) (more : List Seen) → Left src p (one ∷ more) → ⊥ × Left src next more)
    → Left src p left → left ≡ []
ended_at src p next [] go h = refl
ended_at src p next (one ∷ more) go h = absurd (go one more h).0

-- there are as many rows as children
pub count_rows : (src : Source) (st : Stored) (at : ℕ) (rows : List Kid) (kids : Kids) → StandKids src st at rows kids → length rows ≡ count_of kids
count_rows src st at [] no_kids h = refl
count_rows src st at (row ∷ rows) (kid one kids) h = sym (add-one (length rows)) ∙ ap (λ n. n + 1) (count_rows src st at rows kids h.1)
count_rows src st at [] (kid one kids) h = absurd h
count_rows src st at (row ∷ rows) no_kids h = absurd h

abbrev pub IsNodeRow : Kid → Type 0
IsNodeRow (row.Node id from to) = ⊤
IsNodeRow (row.Text n from to) = ⊥
IsNodeRow (row.Number prim from to high low) = ⊥
IsNodeRow (row.Raw from to) = ⊥
IsNodeRow (row.Array n items) = ⊥
IsNodeRow (row.Many n items) = ⊥
