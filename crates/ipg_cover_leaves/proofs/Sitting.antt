-- Parts of an input sit in it, and so do the leaves of its trees.
use Rattle.std.proofs.Common.{◌≡◌, ℕ, zero, suc, ◌+◌, ◌-◌, List, [], ◌∷◌, ◌++◌, length, take, drop, Some}
use Rattle.std.proofs.Common.{inl, inr, arith, refl, ap, sym, ◌∙◌, subst, append_assoc}
use Rattle.std.specs.Prelude.{slice_get}
use Rattle.std.specs.List.{AllByRecursion, Contains}
use Rattle.std.proofs.lemmas.List.Elements.{Contains-append_cases}
use Rattle.ipg_core.specs.Part.{part}
use Rattle.ipg_core.specs.Tree as tree
use Rattle.ipg_core.specs.Tree.{Tree, Kid, Kids, no_kids, kid}
use Rattle.ipg_core.specs.Touch.{width}
use Rattle.ipg_core.specs.Holds.{TreeHolds, KidHolds, KidsHold}
use Rattle.ipg_tree_walk.specs.Visits.{Seen, tree_visits, kid_visits, kids_visits}
use Rattle.ipg_cover_leaves.specs.declared.leaf.Leaf.{Leaf}
use Rattle.ipg_cover_leaves.specs.Bytes.{from_on, leaf_bytes, place_of, puts_of, puts}
use Rattle.ipg_cover_leaves.specs.Leaves.{leaf_in, leaves_seen, leaves_of}
use Rattle.ipg_cover_leaves.specs.Laws.{AreBytes}
use Rattle.ipg_cover_leaves.proofs.Among.{in_none, in_cases}
use Rattle.ipg_cover_leaves.proofs.Insides.{puts_are}
use Rattle.ipg_cover_leaves.proofs.Numbers.{read_and_written}
use Rattle.ipg_cover_leaves.proofs.Seeing.{all_append}

-- these bytes stand in s from a place on
pub record Sits (s : List ℕ) (at : ℕ) (these : List ℕ) : Type 0 where
  pub there : (i b : ℕ) → slice_get these i ≡ Some b → slice_get s (at + i) ≡ Some b

get_drop : (n : ℕ) (xs : List ℕ) (i b : ℕ) → slice_get (drop n xs) i ≡ Some b → slice_get xs (n + i) ≡ Some b
get_drop zero xs i b e = subst (λ (k : ℕ). slice_get xs k ≡ Some b) (omega arith) e
get_drop (suc n) [] i b e = absurd (cc)
get_drop (suc n) (x ∷ xs) i b e = subst (λ (k : ℕ). slice_get (x ∷ xs) k ≡ Some b) (let k : suc (n + i) ≡ suc n + i = omega arith in k) (get_drop n xs i b e)

get_take : (n : ℕ) (xs : List ℕ) (i b : ℕ) → slice_get (take n xs) i ≡ Some b → slice_get xs i ≡ Some b
get_take zero xs i b e = absurd (cc)
get_take (suc n) [] i b e = e
get_take (suc n) (x ∷ xs) zero b e = e
get_take (suc n) (x ∷ xs) (suc i) b e = get_take n xs i b e

bytes_drop : (n : ℕ) (xs : List ℕ) → AreBytes xs → AreBytes (drop n xs)
bytes_drop zero xs h = h
bytes_drop (suc n) [] h = h
bytes_drop (suc n) (x ∷ xs) h = bytes_drop n xs h.1

bytes_take : (n : ℕ) (xs : List ℕ) → AreBytes xs → AreBytes (take n xs)
bytes_take zero xs h = tt
bytes_take (suc n) [] h = h
bytes_take (suc n) (x ∷ xs) h = (h.0, bytes_take n xs h.1)

pub bytes_part : (xs : List ℕ) (from to : ℕ) → AreBytes xs → AreBytes (part xs from to)
bytes_part xs from to h = bytes_take (to - from) (drop from xs) (bytes_drop from xs h)

pub seen_append : (xs ys : List Seen) → leaves_seen (xs ++ ys) ≡ leaves_seen xs ++ leaves_seen ys
seen_append [] ys = refl
seen_append (x ∷ xs) ys =
    ap (λ more. leaf_in x.at x.child ++ more) (seen_append xs ys) ∙ sym (append_assoc (leaf_in x.at x.child) (leaves_seen xs) (leaves_seen ys))

module _ (s : List ℕ) where
  sits_take : (at n : ℕ) (these : List ℕ) → Sits s at these → Sits s at (take n these)
  sits_take at n these sits = record { there = λ i b e. sits.there i b (get_take n these i b e) }

  sits_drop : (at n : ℕ) (these : List ℕ) → Sits s at these → Sits s (at + n) (drop n these)
  sits_drop at n these sits = record {
    there = λ i b e. subst (λ (k : ℕ). slice_get s k ≡ Some b) (omega arith) (sits.there (n + i) b (get_drop n these i b e));
  }

  sits_part : (at from to : ℕ) (these : List ℕ) → Sits s at these → Sits s (at + from) (part these from to)
  sits_part at from to these sits = sits_take (at + from) (to - from) (drop from these) (sits_drop at from these sits)

  sits_rest : (at b : ℕ) (these : List ℕ) → Sits s at (b ∷ these) → Sits s (at + 1) these
  sits_rest at b these sits = record { there = λ i c e. subst (λ (k : ℕ). slice_get s k ≡ Some c) (omega arith) (sits.there (suc i) c e) }

  all_sit : (at : ℕ) (these : List ℕ) → Sits s at these → (put : ℕ × ℕ) → Contains (from_on at these) put → slice_get s put.0 ≡ Some put.1
  all_sit at [] sits put h = absurd (in_none put h)
  all_sit at (b ∷ these) sits put h = elim (in_cases (at, b) (from_on (at + 1) these) put h) [
    | inl e ↦ subst (λ (p : ℕ × ℕ). slice_get s p.0 ≡ Some p.1) e (subst (λ (k : ℕ). slice_get s k ≡ Some b) (omega arith) (sits.there 0 b refl))
    | inr more ↦ all_sit (at + 1) these (sits_rest at b these sits) put more
  ]

  -- a leaf whose bytes sit in s
  pub record IsOf (leaf : Leaf) : Type 0 where
    pub bytes : List ℕ
    pub is : leaf_bytes leaf ≡ Some bytes
    pub sits : Sits s (place_of leaf) bytes

  pub leaf_sits : (leaf : Leaf) → IsOf leaf → (put : ℕ × ℕ) → Contains (puts_of leaf) put → slice_get s put.0 ≡ Some put.1
  leaf_sits leaf of put h = all_sit (place_of leaf) of.bytes of.sits put (subst (λ (all : List (ℕ × ℕ)). Contains all put) (puts_are leaf of.bytes of.is) h)

  pub leaves_sit : (leaves : List Leaf) → AllByRecursion IsOf leaves → (put : ℕ × ℕ) → Contains (puts leaves) put → slice_get s put.0 ≡ Some put.1
  leaves_sit [] of put h = absurd (in_none put h)
  leaves_sit (leaf ∷ leaves) of put h = elim (Contains-append_cases (puts_of leaf) (puts leaves) put h) [
    | inl here ↦ leaf_sits leaf of.0 put here
    | inr more ↦ leaves_sit leaves of.1 put more
  ]

  mutual
    tree_of : (depth at : ℕ) (these : List ℕ) (one : Tree) → TreeHolds these one → Sits s at these → AreBytes these
        → AllByRecursion IsOf (leaves_seen (tree_visits depth at one))
    tree_of depth at these (tree.Node rule size attrs start end kids) holds sits b = kids_of depth at size these kids holds sits b

    kid_of : (depth at size : ℕ) (these : List ℕ) (one : Kid) → KidHolds these one → Sits s at these → AreBytes these
        → AllByRecursion IsOf (leaves_seen (kid_visits depth at size one))
    kid_of depth at size these (tree.Sub from to sub) holds sits b =
        tree_of (depth + 1) (at + from) (part these from to) sub holds (sits_part at from to these sits) (bytes_part these from to b)
    kid_of depth at size these (tree.Token from to bytes) holds sits b = (
      record {
        bytes = bytes;
        is = refl;
        sits = subst (Sits s (at + from)) holds (sits_take (at + from) (length bytes) (part these from to) (sits_part at from to these sits));
      },
      tt,
    )
    kid_of depth at size these (tree.Number from to prim high low) holds sits b = (
      record {
        bytes = take (width prim) (part these from to);
        is = read_and_written prim (part these from to) high low holds (bytes_part these from to b);
        sits = sits_take (at + from) (width prim) (part these from to) (sits_part at from to these sits);
      },
      tt,
    )
    kid_of depth at size these (tree.Raw from to bytes) holds sits b =
        (record { bytes = bytes; is = refl; sits = subst (Sits s (at + from)) holds (sits_part at from to these sits) }, tt)
    kid_of depth at size these (tree.Array sym items) holds sits b = kids_of (depth + 1) at size these items holds sits b
    kid_of depth at size these (tree.Many sym items) holds sits b = kids_of (depth + 1) at size these items holds sits b

    kids_of : (depth at size : ℕ) (these : List ℕ) (ones : Kids) → KidsHold these ones → Sits s at these → AreBytes these
        → AllByRecursion IsOf (leaves_seen (kids_visits depth at size ones))
    kids_of depth at size these no_kids holds sits b = tt
    kids_of depth at size these (kid one more) holds sits b =
        subst (AllByRecursion IsOf) (sym (seen_append (kid_visits depth at size one) (kids_visits depth at size more)))
        (all_append IsOf _ _ (kid_of depth at size these one holds.0 sits b) (kids_of depth at size these more holds.1 sits b))

  pub leaves_are_of : (one : Tree) → TreeHolds s one → AreBytes s → AllByRecursion IsOf (leaves_of one)
  leaves_are_of one holds b =
      tree_of 1 (0 + 0) s one holds (record { there = λ i b e. subst (λ (k : ℕ). slice_get s k ≡ Some b) (omega arith) e }) b
