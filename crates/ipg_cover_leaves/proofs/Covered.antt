-- Leaves put a byte at each place that they cover, and at no other.
use Rattle.std.proofs.Common.{◌≡◌, ℕ, ◌+◌, ◌-◌, ◌<◌, ◌≤◌, Bool, true, false, nat_eq, List, [], ◌∷◌, ◌++◌, length, take, Some, pos, inl, inr, ◌⊎◌}
use Rattle.std.proofs.Common.{arith, refl, ap, sym, ◌∙◌, subst, append_assoc}
use Rattle.std.specs.Prelude.{slice_get}
use Rattle.std.specs.List.{Contains}
use Rattle.std.proofs.lemmas.Bool.Decides.{nat_tests}
use Rattle.std.proofs.lemmas.List.{length-take}
use Rattle.std.proofs.lemmas.Option.{slice_get_within}
use Rattle.std.proofs.lemmas.List.Elements.{Contains-append_left, Contains-append_right, Contains-append_cases}
use Rattle.ipg_core.specs.Part.{part}
use Rattle.ipg_core.specs.Tree as tree
use Rattle.ipg_core.specs.Tree.{Tree, Kid, Kids, no_kids, kid}
use Rattle.ipg_core.specs.Touch.{width}
use Rattle.ipg_core.specs.Holds.{TreeHolds, KidHolds, KidsHold}
use Rattle.ipg_tree_walk.specs.Visits.{tree_visits, kid_visits, kids_visits}
use Rattle.ipg_cover_leaves.specs.declared.leaf.Leaf.{Leaf}
use Rattle.ipg_cover_leaves.specs.declared.leaf.Leaf.TheVariants.{Text, Number, Raw}
use Rattle.ipg_cover_leaves.specs.Bytes.{from_on, leaf_bytes, place_of, puts_of, puts}
use Rattle.ipg_cover_leaves.specs.Leaves.{leaves_seen, leaves_of}
use Rattle.ipg_cover_leaves.specs.Back.{IsPut}
use Rattle.ipg_cover_leaves.specs.Laws.{AreBytes}
use Rattle.ipg_cover_leaves.specs.Covers.{IsAmong, TreeCovers, KidCovers, KidsCover, CoveredIsPut, PutIsCovered, AllPutComesBack}
use Rattle.ipg_cover_leaves.proofs.Among.{in_none, in_first, in_rest}
use Rattle.ipg_cover_leaves.proofs.Insides.{puts_are}
use Rattle.ipg_cover_leaves.proofs.Numbers.{read_and_written}
use Rattle.ipg_cover_leaves.proofs.Places.{lies}
use Rattle.ipg_cover_leaves.proofs.Sitting.{bytes_part, seen_append, leaves_sit, leaves_are_of}
use Rattle.ipg_cover_leaves.proofs.Agreed.{leaves_agree}

-- ---- what is put stays where more is

put_left : (xs ys : List (ℕ × ℕ)) (at : ℕ) → IsPut xs at → IsPut (xs ++ ys) at
put_left xs ys at h = (h.0, Contains-append_left xs ys (at, h.0) h.1)

put_right : (xs ys : List (ℕ × ℕ)) (at : ℕ) → IsPut ys at → IsPut (xs ++ ys) at
put_right xs ys at h = (h.0, Contains-append_right xs ys (at, h.0) h.1)

puts_append : (xs ys : List Leaf) → puts (xs ++ ys) ≡ puts xs ++ puts ys
puts_append [] ys = refl
puts_append (x ∷ xs) ys = ap (λ more. puts_of x ++ more) (puts_append xs ys) ∙ sym (append_assoc (puts_of x) (puts xs) (puts ys))

both_puts : (depth at size : ℕ) (one : Kid) (more : Kids)
    → puts (leaves_seen (kids_visits depth at size (kid one more)))
    ≡ puts (leaves_seen (kid_visits depth at size one)) ++ puts (leaves_seen (kids_visits depth at size more))
both_puts depth at size one more =
    ap puts (seen_append (kid_visits depth at size one) (kids_visits depth at size more))
    ∙ puts_append (leaves_seen (kid_visits depth at size one)) (leaves_seen (kids_visits depth at size more))

-- ---- one leaf

here : (at place b : ℕ) (bytes : List ℕ) → at ≡ place → IsPut (from_on at (b ∷ bytes)) place
here at place b bytes e = (b, subst (λ (n : ℕ). Contains (from_on at (b ∷ bytes)) (n, b)) e (in_first (at, b) (from_on (at + 1) bytes)))

among_by : (same : Bool) (at place b : ℕ) (bytes : List ℕ) → nat_eq at place ≡ same → at ≤ place
    → (at + 1 ≤ place → IsPut (from_on (at + 1) bytes) place) → IsPut (from_on at (b ∷ bytes)) place
among_by true at place b bytes e le k = here at place b bytes (grind (arith, nat_tests))
among_by false at place b bytes e le k =
    let next : at + 1 ≤ place = grind (arith, nat_tests) in
    let h = k next in (h.0, in_rest (at, b) (from_on (at + 1) bytes) (place, h.0) h.1)

among : (at place : ℕ) (bytes : List ℕ) → at ≤ place → place < at + length bytes → IsPut (from_on at bytes) place
among at place [] le lt = absurd (omega arith)
among at place (b ∷ bytes) le lt = among_by (nat_eq at place) at place b bytes refl le (λ next. among (at + 1) place bytes next (omega arith))

-- a leaf with these bytes that begins there puts one at each of their places
leaf_puts : (leaf : Leaf) (bytes : List ℕ) (at from n place : ℕ) → leaf_bytes leaf ≡ Some bytes → place_of leaf ≡ at + from → length bytes ≡ n
    → IsAmong from n place → IsPut (puts (leaf ∷ [])) (at + place)
leaf_puts leaf bytes at from n place is from_is long h =
    put_left (puts_of leaf) [] (at + place)
    (subst (λ all. IsPut all (at + place)) (sym (puts_are leaf bytes is))
    (let begun = h.begun in let ends = h.ends in among (place_of leaf) (at + place) bytes (omega arith) (omega arith)))

-- ---- trees

mutual
  tree_puts : (depth at : ℕ) (these : List ℕ) (one : Tree) (place : ℕ) → TreeHolds these one → AreBytes these → TreeCovers place one
      → IsPut (puts (leaves_seen (tree_visits depth at one))) (at + place)
  tree_puts depth at these (tree.Node rule size attrs start end kids) place holds b h = kids_put depth at size these kids place holds b h

  kid_puts : (depth at size : ℕ) (these : List ℕ) (one : Kid) (place : ℕ) → KidHolds these one → AreBytes these → KidCovers place one
      → IsPut (puts (leaves_seen (kid_visits depth at size one))) (at + place)
  kid_puts depth at size these (tree.Sub from to sub) place holds b h =
      let le : from ≤ place = h.0 in
      subst (IsPut (puts (leaves_seen (tree_visits (depth + 1) (at + from) sub)))) (let e : (at + from) + (place - from) ≡ at + place = omega arith in e)
      (tree_puts (depth + 1) (at + from) (part these from to) sub (place - from) holds (bytes_part these from to b) h.1)
  kid_puts depth at size these (tree.Token from to bytes) place holds b h =
      leaf_puts (Text (at + from) bytes) bytes at from (length bytes) place refl refl refl h
  kid_puts depth at size these (tree.Number from to prim high low) place holds b h =
      leaf_puts (Number prim (at + from) (pos high) (pos low)) (take (width prim) (part these from to)) at from (width prim) place
      (read_and_written prim (part these from to) high low holds (bytes_part these from to b)) refl
      (let enough = holds.enough in omega (arith, length-take (width prim) (part these from to))) h
  kid_puts depth at size these (tree.Raw from to bytes) place holds b h =
      leaf_puts (Raw (at + from) bytes) bytes at from (length bytes) place refl refl refl h
  kid_puts depth at size these (tree.Array sym items) place holds b h = kids_put (depth + 1) at size these items place holds b h
  kid_puts depth at size these (tree.Many sym items) place holds b h = kids_put (depth + 1) at size these items place holds b h

  kids_put : (depth at size : ℕ) (these : List ℕ) (ones : Kids) (place : ℕ) → KidsHold these ones → AreBytes these → KidsCover place ones
      → IsPut (puts (leaves_seen (kids_visits depth at size ones))) (at + place)
  kids_put depth at size these no_kids place holds b h = absurd h
  kids_put depth at size these (kid one more) place holds b (inl h) =
      subst (λ all. IsPut all (at + place)) (sym (both_puts depth at size one more))
      (put_left (puts (leaves_seen (kid_visits depth at size one))) (puts (leaves_seen (kids_visits depth at size more))) (at + place)
      (kid_puts depth at size these one place holds.0 b h))
  kids_put depth at size these (kid one more) place holds b (inr h) =
      subst (λ all. IsPut all (at + place)) (sym (both_puts depth at size one more))
      (put_right (puts (leaves_seen (kid_visits depth at size one))) (puts (leaves_seen (kids_visits depth at size more))) (at + place)
      (kids_put depth at size these more place holds.1 b h))

pub covered_is_put : CoveredIsPut
covered_is_put s one place b holds h =
    subst (IsPut (puts (leaves_seen (tree_visits 1 (0 + 0) one)))) (let e : (0 + 0) + place ≡ place = omega arith in e)
    (tree_puts 1 (0 + 0) s one place holds b h)

-- ---- nothing else is put

put_cases : (xs ys : List (ℕ × ℕ)) (at : ℕ) → IsPut (xs ++ ys) at → IsPut xs at ⊎ IsPut ys at
put_cases xs ys at h = elim (Contains-append_cases xs ys (at, h.0) h.1) [ inl one ↦ inl (h.0, one) | inr more ↦ inr (h.0, more) ]

-- a place of a part that begins at `at` is one that the part's tree covers
abbrev Within : ℕ → ℕ → (ℕ → Type 0) → Type 0
Within at place Covers = (at ≤ place) × Covers (place - at)

leaf_lies : (leaf : Leaf) (bytes : List ℕ) (at from n place : ℕ) → leaf_bytes leaf ≡ Some bytes → place_of leaf ≡ at + from → length bytes ≡ n
    → IsPut (puts (leaf ∷ [])) place → Within at place (IsAmong from n)
leaf_lies leaf bytes at from n place is from_is long h =
    elim (put_cases (puts_of leaf) [] place h) [
      | inl one ↦
          let between = lies (place_of leaf) bytes (place, one.0) (subst (λ all. Contains all (place, one.0)) (puts_are leaf bytes is) one.1) in
          let begun = between.from in
          let ends = between.to in
          (omega (arith, begun, from_is), record { begun = omega (arith, begun, from_is); ends = omega (arith, begun, ends, from_is, long) })
      | inr none ↦ absurd (in_none (place, none.0) none.1)
    ]

mutual
  tree_covers : (depth at : ℕ) (these : List ℕ) (one : Tree) (place : ℕ) → TreeHolds these one → AreBytes these
      → IsPut (puts (leaves_seen (tree_visits depth at one))) place → Within at place (λ p. TreeCovers p one)
  tree_covers depth at these (tree.Node rule size attrs start end kids) place holds b h = kids_cover depth at size these kids place holds b h

  kid_covers : (depth at size : ℕ) (these : List ℕ) (one : Kid) (place : ℕ) → KidHolds these one → AreBytes these
      → IsPut (puts (leaves_seen (kid_visits depth at size one))) place → Within at place (λ p. KidCovers p one)
  kid_covers depth at size these (tree.Sub from to sub) place holds b h =
      let inner = tree_covers (depth + 1) (at + from) (part these from to) sub place holds (bytes_part these from to b) h in
      let le = inner.0 in
      let same : place - (at + from) ≡ (place - at) - from = omega (arith, le) in
      (omega (arith, le), (omega (arith, le), subst (λ p. TreeCovers p sub) same inner.1))
  kid_covers depth at size these (tree.Token from to bytes) place holds b h =
      leaf_lies (Text (at + from) bytes) bytes at from (length bytes) place refl refl refl h
  kid_covers depth at size these (tree.Number from to prim high low) place holds b h =
      leaf_lies (Number prim (at + from) (pos high) (pos low)) (take (width prim) (part these from to)) at from (width prim) place
      (read_and_written prim (part these from to) high low holds (bytes_part these from to b)) refl
      (let enough = holds.enough in omega (arith, length-take (width prim) (part these from to))) h
  kid_covers depth at size these (tree.Raw from to bytes) place holds b h =
      leaf_lies (Raw (at + from) bytes) bytes at from (length bytes) place refl refl refl h
  kid_covers depth at size these (tree.Array sym items) place holds b h = kids_cover (depth + 1) at size these items place holds b h
  kid_covers depth at size these (tree.Many sym items) place holds b h = kids_cover (depth + 1) at size these items place holds b h

  kids_cover : (depth at size : ℕ) (these : List ℕ) (ones : Kids) (place : ℕ) → KidsHold these ones → AreBytes these
      → IsPut (puts (leaves_seen (kids_visits depth at size ones))) place → Within at place (λ p. KidsCover p ones)
  kids_cover depth at size these no_kids place holds b h = absurd (in_none (place, h.0) h.1)
  kids_cover depth at size these (kid one more) place holds b h =
      elim (put_cases (puts (leaves_seen (kid_visits depth at size one))) (puts (leaves_seen (kids_visits depth at size more))) place
      (subst (λ all. IsPut all place) (both_puts depth at size one more) h)) [
        | inl here ↦ let c = kid_covers depth at size these one place holds.0 b here in (c.0, inl c.1)
        | inr there ↦ let c = kids_cover depth at size these more place holds.1 b there in (c.0, inr c.1)
      ]

pub put_is_covered : PutIsCovered
put_is_covered s one place b holds h =
    subst (λ p. TreeCovers p one) (let e : place - (0 + 0) ≡ place = omega arith in e) (tree_covers 1 (0 + 0) s one place holds b h).1

pub all_put_comes_back : AllPutComesBack
all_put_comes_back s one bytes holds within put = record {
  agree = leaves_agree s one bytes holds within;
  long = refl;
  each = λ at b e.
      let there = put at (slice_get_within s at b e) in
      let sits : slice_get s at ≡ Some there.0 = leaves_sit s (leaves_of one) (leaves_are_of s one holds bytes) (at, there.0) there.1 in
      let same : there.0 ≡ b = cc in
      subst (λ c. Contains {X = ℕ × ℕ} (puts (leaves_of one)) (at, c)) same there.1;
}
