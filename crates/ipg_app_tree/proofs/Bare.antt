-- A place of an input is bare exactly where no leaf of its tree puts a byte.
use Rattle.std.proofs.Common.{◌≡◌, ℕ, zero, suc, ◌+◌, ◌-◌, ◌<◌, ◌≤◌, ◌⊎◌, inl, inr, Bool, true, false, not, ◌&&◌, List, [], ◌∷◌, ◌++◌, length, get_or}
use Rattle.std.proofs.Common.{arith, refl, ap, sym, ◌∙◌, subst, MatchBool}
use Rattle.std.proofs.lemmas.Bool.Decides.{nat_tests}
use Rattle.ipg_core.specs.Tree as tree
use Rattle.ipg_core.specs.Tree.{Tree, Kid, Kids, no_kids, kid}
use Rattle.ipg_core.specs.Touch.{width}
use Rattle.ipg_core.specs.Within.{TreeWithin, KidWithin, KidsWithin}
use Rattle.ipg_core.specs.Holds.{TreeHolds}
use Rattle.ipg_tree_walk.specs.Visits.{Seen, visits, tree_visits, kid_visits, kids_visits}
use Rattle.ipg_tree_view.specs.Bare.{none_has, has_byte, is_among, end_of, bare_from, bare_of}
use Rattle.ipg_cover_leaves.specs.declared.fault.PutFault.TheVariants.{Gap}
use Rattle.ipg_cover_leaves.specs.Back.{IsPut, IsBack, IsPutFault}
use Rattle.ipg_cover_leaves.specs.Bytes.{puts}
use Rattle.ipg_cover_leaves.specs.Covers.{IsAmong, TreeCovers, KidCovers, KidsCover, CoveredIsPut, PutIsCovered, AllPutComesBack}
use Rattle.ipg_cover_leaves.specs.Laws.{AreBytes, LeavesAgree}
use Rattle.ipg_cover_leaves.specs.Leaves.{leaves_of}
use Rattle.ipg_app_tree.specs.Answered.{IsFirstBare, NoneIsBare}
use Rattle.ipg_app_tree.specs.Laws.{BareIsNotPut}

-- true where it doesn't hold
abbrev Refutes : Bool → Type 0 → Type 0
Refutes b P = MatchBool b (P → ⊥) P

-- a place of a part that begins at `at` is one that is covered
abbrev Within : ℕ → ℕ → (ℕ → Type 0) → Type 0
Within at place Covers = (at ≤ place) × Covers (place - at)

refutes_same : (b : Bool) (P Q : Type 0) → (P → Q) → (Q → P) → Refutes b P → Refutes b Q
refutes_same true P Q to back h = λ q. h (back q)
refutes_same false P Q to back h = to h

refutes_both : (a b : Bool) (P Q : Type 0) → Refutes a P → Refutes b Q → Refutes (a && b) (P ⊎ Q)
refutes_both true true P Q h k = λ one. elim one [ inl p ↦ h p | inr q ↦ k q ]
refutes_both true false P Q h k = inr k
refutes_both false b P Q h k = inl h

and_more : (a b c : Bool) → a && (b && c) ≡ (a && b) && c
and_more true b c = refl
and_more false b c = refl

none_append : (place : ℕ) (xs ys : List Seen) → none_has place (xs ++ ys) ≡ none_has place xs && none_has place ys
none_append place [] ys = refl
none_append place (x ∷ xs) ys =
    ap (λ b. not (has_byte place x.at x.child) && b) (none_append place xs ys)
    ∙ and_more (not (has_byte place x.at x.child)) (none_has place xs) (none_has place ys)

-- ---- leaves

-- n bytes from `from` on, in a part that begins at `at`
module _ (at from n end place : ℕ) (is : end ≡ at + from + n) where
  leaf_by : (b : Bool) → is_among (at + from) end place ≡ b → Refutes (not b && true) (Within at place (IsAmong from n))
  leaf_by true e =
      let begun : at + from ≤ place = grind (arith, nat_tests) in
      let ends : place < end = grind (arith, nat_tests) in
      (omega (arith, begun), record { begun = omega (arith, begun); ends = omega (arith, begun, ends, is) })
  leaf_by false e = λ h.
      let le = h.0 in
      let begun = h.1.begun in
      let ends = h.1.ends in
      let from_here : at + from ≤ place = omega (arith, le, begun) in
      let to_here : place < end = omega (arith, le, ends, is) in
      absurd (grind (arith, nat_tests))

  leaf : Refutes (not (is_among (at + from) end place) && true) (Within at place (IsAmong from n))
  leaf = leaf_by (is_among (at + from) end place) refl

ends_at : (at from to n : ℕ) → n ≤ to - from → end_of (at + from) (at + to) n ≡ at + from + n
ends_at at from to n fits = grind (arith, fits)

-- ---- trees

-- what a part has is what the part that it lies in has
within_part : (at from place : ℕ) (sub : Tree) → Within (at + from) place (λ p. TreeCovers p sub)
    → Within at place (λ p. (from ≤ p) × TreeCovers (p - from) sub)
within_part at from place sub h =
    let le = h.0 in
    let same : place - (at + from) ≡ (place - at) - from = omega (arith, le) in
    (omega (arith, le), (omega (arith, le), subst (λ p. TreeCovers p sub) same h.1))

within_whole : (at from place : ℕ) (sub : Tree) → Within at place (λ p. (from ≤ p) × TreeCovers (p - from) sub)
    → Within (at + from) place (λ p. TreeCovers p sub)
within_whole at from place sub h =
    let le = h.0 in
    let begun = h.1.0 in
    let same : (place - at) - from ≡ place - (at + from) = omega (arith, le, begun) in
    (omega (arith, le, begun), subst (λ p. TreeCovers p sub) same h.1.1)

mutual
  tree_is : (n depth at place : ℕ) (one : Tree) → TreeWithin n one
      → Refutes (none_has place (tree_visits depth at one)) (Within at place (λ p. TreeCovers p one))
  tree_is n depth at place (tree.Node rule size attrs start end kids) h = kids_are n depth at size place kids h.2

  kid_is : (n depth at size place : ℕ) (one : Kid) → KidWithin n one
      → Refutes (none_has place (kid_visits depth at size one)) (Within at place (λ p. KidCovers p one))
  kid_is n depth at size place (tree.Sub from to sub) h =
      refutes_same (none_has place (tree_visits (depth + 1) (at + from) sub)) (Within (at + from) place (λ p. TreeCovers p sub))
      (Within at place (λ p. KidCovers p (tree.Sub from to sub))) (within_part at from place sub) (within_whole at from place sub)
      (tree_is (to - from) (depth + 1) (at + from) place sub h.1)
  kid_is n depth at size place (tree.Token from to bytes) h =
      leaf at from (length bytes) (end_of (at + from) (at + to) (length bytes)) place (ends_at at from to (length bytes) h.1)
  kid_is n depth at size place (tree.Number from to prim high low) h =
      leaf at from (width prim) (end_of (at + from) (at + to) (width prim)) place (ends_at at from to (width prim) h.1)
  kid_is n depth at size place (tree.Raw from to bytes) h =
      let valid = h.0.valid in let long = h.1 in leaf at from (length bytes) (at + to) place (omega (arith, valid, long))
  kid_is n depth at size place (tree.Array sym items) h = kids_are n (depth + 1) at size place items h
  kid_is n depth at size place (tree.Many sym items) h = kids_are n (depth + 1) at size place items h

  kids_are : (n depth at size place : ℕ) (ones : Kids) → KidsWithin n ones
      → Refutes (none_has place (kids_visits depth at size ones)) (Within at place (λ p. KidsCover p ones))
  kids_are n depth at size place no_kids h = λ none. absurd none.1
  kids_are n depth at size place (kid one more) h =
      let Here = Within at place (λ p. KidCovers p one) in
      let There = Within at place (λ p. KidsCover p more) in
      subst (λ b. Refutes b (Within at place (λ p. KidsCover p (kid one more))))
      (sym (none_append place (kid_visits depth at size one) (kids_visits depth at size more)))
      (refutes_same (none_has place (kid_visits depth at size one) && none_has place (kids_visits depth at size more)) (Here ⊎ There)
      (Within at place (λ p. KidsCover p (kid one more)))
      (λ either. elim either [ inl here ↦ (here.0, inl here.1) | inr there ↦ (there.0, inr there.1) ])
      (λ both. elim both.1 [ inl here ↦ inl (both.0, here) | inr there ↦ inr (both.0, there) ])
      (refutes_both (none_has place (kid_visits depth at size one)) (none_has place (kids_visits depth at size more)) Here There
      (kid_is n depth at size place one h.0) (kids_are n depth at size place more h.1)))

pub bare_is_not_put : CoveredIsPut → PutIsCovered → BareIsNotPut
bare_is_not_put covered_is_put put_is_covered s one place bytes holds within =
    let least : 0 ≤ place = omega arith in
    let same : place - (0 + 0) ≡ place = omega arith in
    refutes_same _ (Within (0 + 0) place (λ p. TreeCovers p one)) _
    (λ h. covered_is_put s one place bytes holds (subst (λ p. TreeCovers p one) same h.1))
    (λ put. (least, subst (λ p. TreeCovers p one) (sym same) (put_is_covered s one place bytes holds put)))
    (tree_is (length s) (0 + 1) (0 + 0) place one within)

-- ---- the list of bare places

bare_at : (at n place : ℕ) (seen : List Seen) → place < n → get_or (bare_from at n seen) place true ≡ none_has (at + place) seen
bare_at at zero place seen lt = absurd (omega (arith, lt))
bare_at at (suc n) zero seen lt = let same : at ≡ at + 0 = omega arith in ap (λ k. none_has k seen) same
bare_at at (suc n) (suc place) seen lt =
    bare_at (at + 1) n place seen (omega (arith, lt)) ∙ (let same : (at + 1) + place ≡ at + suc place = omega arith in ap (λ k. none_has k seen) same)

how_many : (at n : ℕ) (seen : List Seen) → length (bare_from at n seen) ≡ n
how_many at zero seen = refl
how_many at (suc n) seen = ap suc (how_many (at + 1) n seen)

module _ (law : BareIsNotPut) (agree : LeavesAgree) (s : List ℕ) (one : Tree) (bytes : AreBytes s) (holds : TreeHolds s one)
    (within : TreeWithin (length s) one) (bare : List Bool) (is : bare ≡ bare_of (length s) (visits one)) where
  abbrev Put : ℕ → Type 0
  Put place = IsPut (puts (leaves_of one)) place

  long : length bare ≡ length s
  long = ap length is ∙ how_many 0 (length s) (visits one)

  put_at : (place : ℕ) (b : Bool) → place < length bare → get_or bare place true ≡ b → Refutes b (Put place)
  put_at place b lt e =
      let inside : place < length s = omega (arith, lt, long) in
      let same : 0 + place ≡ place = omega arith in
      let listed = ap (λ all. get_or all place true) is ∙ bare_at 0 (length s) place (visits one) inside ∙ ap (λ k. none_has k (visits one)) same in
      let here : none_has place (visits one) ≡ b = sym listed ∙ e in
      subst (λ x. Refutes x (Put place)) here (law s one place bytes holds within)

  -- the least place that no leaf has
  pub misses : (at : ℕ) → IsFirstBare bare at → IsPutFault (leaves_of one) (length s) (Gap at)
  misses at first =
      let inside = first.within in (
        agree s one bytes holds within,
        record {
          within = omega (arith, inside, long);
          bare = put_at at true inside first.is;
          before = λ place lt. put_at place false (omega (arith, lt, inside)) (first.before place lt);
        },
      )

  -- where there is none
  pub comes_back : AllPutComesBack → NoneIsBare bare → IsBack (leaves_of one) (length s) s
  comes_back back none = back s one bytes holds within (λ place lt. let inside : place < length bare = omega (arith, lt, long) in
      put_at place false inside (none place inside))
