-- A grammar has one answer.
use Rattle.std.proofs.Common.{◌≡◌, ℕ, suc, List, [], ◌∷◌, ◌++◌, length, refl, sym, ap, subst, ◌∙◌, arith, ℤ, Bool, true, false, true≢false}
use Rattle.std.specs.Prelude.{◌≤ℤ◌}
use Rattle.std.specs.List.{AllByRecursion}
use Rattle.std.proofs.lemmas.Int.{ints}
use Rattle.ipg_lin.specs.declared.formula.Formula.{Formula}
use Rattle.ipg_lin.specs.declared.formula.Boxed.{Boxed}
use Rattle.ipg_cert.specs.declared.refutation.Refutation.{Refutation}
use Rattle.ipg_cert.specs.Laws.{ChecksRefute}
use Rattle.ipg_core.specs.Grammar.{Grammar}
use Rattle.ipg_core.specs.MustTouch.{Marks, is_marked}
use Rattle.ipg_touch.specs.Laws.{OneLimit}
use Rattle.ipg_cover.specs.Reach.{AreReached}
use Rattle.ipg_cover.specs.Cover.{Leaves, AreRefuted, Covers, IsLeastGap, HasGap, alternatives, gap_at}

-- flags that say the same are one list
same_flag : (a b : Bool) → ((a ≡ true) → b ≡ true) → ((b ≡ true) → a ≡ true) → a ≡ b
same_flag true b f g = sym (f refl)
same_flag false true f g = absurd (true≢false (sym (g refl)))
same_flag false false f g = refl

one_list : (a b : Marks) → length a ≡ length b → ((r : ℕ) → is_marked a r ≡ true → is_marked b r ≡ true)
    → ((r : ℕ) → is_marked b r ≡ true → is_marked a r ≡ true) → a ≡ b
one_list [] [] e f g = refl
one_list [] (y ∷ b) e f g = absurd (omega arith)
one_list (x ∷ a) [] e f g = absurd (omega arith)
one_list (x ∷ a) (y ∷ b) e f g =
    let rest : a ≡ b = one_list a b (omega arith) (λ r. f (suc r)) (λ r. g (suc r)) in
    let first : x ≡ y = same_flag x y (f 0) (g 0) in
    ap (λ z. z ∷ a) first ∙ ap (λ zs. y ∷ zs) rest

one_reached : (g : Grammar) (a b : Marks) → AreReached g a → AreReached g b → a ≡ b
one_reached g a b one other =
    one_list a b (one.size ∙ sym other.size) (λ r h. (other.exact r).1 ((one.exact r).0 h)) (λ r h. (one.exact r).1 ((other.exact r).0 h))

-- where each of some alternatives is refuted, none of them has a gap
refuted_here : (g : Grammar) (marks : Marks) (earlier later : List (ℕ × ℕ)) (place : ℕ × ℕ) (refutations : List Refutation) → ChecksRefute
    → AreRefuted g marks (earlier ++ place ∷ later) refutations → ¬ Leaves g marks place
refuted_here g marks [] later place [] refute h = absurd h
refuted_here g marks [] later place (r ∷ refutations) refute h = refute (gap_at g marks place).0 (gap_at g marks place).1 r h.0
refuted_here g marks (p ∷ earlier) later place [] refute h = absurd h
refuted_here g marks (p ∷ earlier) later place (r ∷ refutations) refute h = refuted_here g marks earlier later place refutations refute h.1

leaves : (g : Grammar) (marks : Marks) (place : ℕ × ℕ) (at eoi : ℤ) → IsLeastGap (gap_at g marks place) at eoi → Leaves g marks place
leaves g marks place at eoi is = (is.values, is.solves.0, is.solves.1)

module _ (g : Grammar) (limits : OneLimit) where
  pub covered_has_no_gap : ChecksRefute → (refutations : List Refutation) (place : ℕ × ℕ) (at eoi : ℤ) → Covers g refutations → ¬ HasGap g place at eoi
  covered_has_no_gap refute refutations place at eoi covers has =
      let marks_same : covers.ground.marks ≡ has.ground.marks = limits g covers.ground.marks has.ground.marks covers.ground.limit has.ground.limit in
      let flags_same : covers.ground.flags ≡ has.ground.flags = one_reached g covers.ground.flags has.ground.flags covers.ground.reached has.ground.reached in
      let listed : alternatives g covers.ground.flags ≡ has.earlier ++ place ∷ has.later = ap (alternatives g) flags_same ∙ has.order in
      let refuted = subst (λ marks. AreRefuted g marks (has.earlier ++ place ∷ has.later) refutations) marks_same
      (subst (λ places. AreRefuted g covers.ground.marks places refutations) listed covers.refuted) in
      refuted_here g has.ground.marks has.earlier has.later place refutations refute refuted (leaves g has.ground.marks place at eoi has.least)

-- the first of which something holds is one
head_same : {A : Type 0} (x y : A) (xs ys : List A) → x ∷ xs ≡ y ∷ ys → x ≡ y
head_same x y xs ys e = cc

tail_same : {A : Type 0} (x y : A) (xs ys : List A) → x ∷ xs ≡ y ∷ ys → xs ≡ ys
tail_same x y xs ys e = cc

one_first : {A : Type 0} (P : A → Type 0) (before others : List A) (x y : A) (after rest : List A) → before ++ x ∷ after ≡ others ++ y ∷ rest
    → AllByRecursion (λ z. ¬ P z) before → AllByRecursion (λ z. ¬ P z) others → P x → P y → x ≡ y
one_first P [] [] x y after rest e none never h k = head_same x y after rest e
one_first P [] (z ∷ others) x y after rest e none never h k = absurd (never.0 (subst P (head_same x z after (others ++ y ∷ rest) e) h))
one_first P (w ∷ before) [] x y after rest e none never h k = absurd (none.0 (subst P (sym (head_same w y (before ++ x ∷ after) rest e)) k))
one_first P (w ∷ before) (z ∷ others) x y after rest e none never h k =
    one_first P before others x y after rest (tail_same w z (before ++ x ∷ after) (others ++ y ∷ rest) e) none.1 never.1 h k

both_ways : (x y : ℤ) → x ≤ℤ y → y ≤ℤ x → x ≡ y
both_ways x y h k = omega (arith, ints, h, k)

one_least : (part : Formula × Boxed) (at eoi at_other eoi_other : ℤ) → IsLeastGap part at eoi → IsLeastGap part at_other eoi_other
    → (at ≡ at_other) × (eoi ≡ eoi_other)
one_least part at eoi at_other eoi_other one other =
    let same : eoi ≡ eoi_other = both_ways eoi eoi_other (subst (λ z. eoi ≤ℤ z) other.length_is (one.least other.values other.solves))
    (subst (λ z. eoi_other ≤ℤ z) one.length_is (other.least one.values one.solves)) in
    let up : at ≤ℤ at_other = subst (λ z. at ≤ℤ z) other.place_is (one.least_place other.values other.solves (other.length_is ∙ sym same)) in
    let down : at_other ≤ℤ at = subst (λ z. at_other ≤ℤ z) one.place_is (other.least_place one.values one.solves (one.length_is ∙ same)) in
    (both_ways at at_other up down, same)

module _ (g : Grammar) (limits : OneLimit) (place other : ℕ × ℕ) (at eoi at_other eoi_other : ℤ) (one : HasGap g place at eoi)
    (two : HasGap g other at_other eoi_other) where
  marks_same : one.ground.marks ≡ two.ground.marks
  marks_same = limits g one.ground.marks two.ground.marks one.ground.limit two.ground.limit

  listed : one.earlier ++ place ∷ one.later ≡ two.earlier ++ other ∷ two.later
  listed = sym one.order ∙ ap (alternatives g) (one_reached g one.ground.flags two.ground.flags one.ground.reached two.ground.reached) ∙ two.order

  place_same : place ≡ other
  place_same =
      one_first (Leaves g one.ground.marks) one.earlier two.earlier place other one.later two.later listed one.first
      (subst (λ marks. AllByRecursion (λ p. ¬ Leaves g marks p) two.earlier) (sym marks_same) two.first)
      (leaves g one.ground.marks place at eoi one.least)
      (leaves g one.ground.marks other at_other eoi_other (subst (λ marks. IsLeastGap (gap_at g marks other) at_other eoi_other) (sym marks_same) two.least))

  pub one_gap : (place ≡ other) × (at ≡ at_other) × (eoi ≡ eoi_other)
  one_gap =
      let again : IsLeastGap (gap_at g two.ground.marks other) at eoi =
      subst (λ marks. IsLeastGap (gap_at g marks other) at eoi) marks_same
      (subst (λ p. IsLeastGap (gap_at g one.ground.marks p) at eoi) place_same one.least) in
      let same = one_least (gap_at g two.ground.marks other) at eoi at_other eoi_other again two.least in
      (place_same, same.0, same.1)
