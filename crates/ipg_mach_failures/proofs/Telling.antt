-- What is told are the furthest, failure by failure.
use Rattle.std.proofs.Common.{◌≡◌, ◌⊎◌, inl, inr, ℕ, ◌+◌, ◌<◌, ◌≤◌, refl, sym, ap, subst, arith, List, [], ◌∷◌, ◌++◌, Some, Bool, true, false, length}
use Rattle.std.specs.Prelude.{nat_eq, nat_lt, if◌then◌else◌, ◌||◌}
use Rattle.std.proofs.lemmas.Bool.{ltb-true, ltb-false}
use Rattle.std.proofs.lemmas.Bool.Decides.{nat_tests}
use Rattle.std.proofs.lemmas.List.{length-append}
use Rattle.ipg_mach_failures.specs.declared.failure.Failure.{Failure}
use Rattle.ipg_mach_failures.specs.declared.story.Story.{Story}
use Rattle.ipg_mach_failures.specs.Furthest.{Furthest, alike, is_told, only, with_one, further, after, furthest_with, furthest_from}
use Rattle.ipg_mach_failures.specs.Laws.{Has, AreUnlike, AreFurthest, FurthestAreFurthest}

-- ---- one more at the end

split : (met : List Story) (x one : Story) → Has (met ++ x ∷ []) one → Has met one ⊎ (x ≡ one)
split [] x one (inl e) = inr e
split [] x one (inr h) = absurd h
split (m ∷ met) x one (inl e) = inl (inl e)
split (m ∷ met) x one (inr h) = later (split met x one h)
  where
    later : Has met one ⊎ (x ≡ one) → Has (m ∷ met) one ⊎ (x ≡ one)
    later (inl h) = inl (inr h)
    later (inr e) = inr e

stays : (met : List Story) (x one : Story) → Has met one → Has (met ++ x ∷ []) one
stays [] x one h = absurd h
stays (m ∷ met) x one (inl e) = inl e
stays (m ∷ met) x one (inr h) = inr (stays met x one h)

is_last : (met : List Story) (x : Story) → Has (met ++ x ∷ []) x
is_last [] x = inl refl
is_last (m ∷ met) x = inr (is_last met x)

same_nat : (n : ℕ) → nat_eq n n ≡ true
same_nat n = grind (arith, nat_tests)

alike_self : (x : Failure) → alike x x ≡ true
alike_self x =
    let a = same_nat x.rule in let b = same_nat x.alt in let c = same_nat x.term in let d = same_nat x.branch in rw a (rw b (rw c d))

or_true : (b : Bool) → b || true ≡ true
or_true true = refl
or_true false = refl

or_parts : (a b : Bool) → a || b ≡ false → (a ≡ false) × (b ≡ false)
or_parts true b e = absurd (cc)
or_parts false b e = (refl, e)

or_grows : (a b c : Bool) → (b ≡ true → c ≡ true) → a || b ≡ true → a || c ≡ true
or_grows true b c h e = refl
or_grows false b c h e = h e

told_stays : (told : List Story) (x one : Story) → is_told told one.failure ≡ true → is_told (told ++ x ∷ []) one.failure ≡ true
told_stays [] x one e = absurd (cc)
told_stays (t ∷ told) x one e =
    or_grows (alike t.failure one.failure) (is_told told one.failure) (is_told (told ++ x ∷ []) one.failure) (told_stays told x one) e

told_last : (told : List Story) (x : Story) → is_told (told ++ x ∷ []) x.failure ≡ true
told_last [] x = let self = alike_self x.failure in rw self refl
told_last (t ∷ told) x = let rest = told_last told x in rw rest (or_true (alike t.failure x.failure))

unlike_last : (told : List Story) (x : Story) → AreUnlike told → is_told told x.failure ≡ false → AreUnlike (told ++ x ∷ [])
unlike_last [] x h e = (λ other never. absurd never, tt)
unlike_last (t ∷ told) x h e =
    let parts = or_parts (alike t.failure x.failure) (is_told told x.failure) e in
    (λ other has. each parts.0 other (split told x other has), unlike_last told x h.1 parts.1)
  where
    each : alike t.failure x.failure ≡ false → (other : Story) → Has told other ⊎ (x ≡ other) → alike t.failure other.failure ≡ false
    each never other (inl has) = h.0 other has
    each never other (inr is) = subst (λ y. alike t.failure y.failure ≡ false) is never

-- ---- one failure more

module _ (met : List Story) (f : Furthest) (place : ℕ) (are : AreFurthest met f place) (x : Story) where
  -- what is told stays at that place
  abbrev same : Furthest → Type 0
  same g = AreFurthest (met ++ x ∷ []) g place

  grown : x.failure.place ≤ place → (x.failure.place ≡ place → f.more ≡ 0 → is_told f.told x.failure ≡ true) → same f
  grown le told = record {
    told = λ one has. (stays met x one (are.told one has).0, (are.told one has).1);
    greatest = λ one has. by_greatest one (split met x one has);
    all = λ one has at none. by_all one (split met x one has) at none;
    unlike = are.unlike;
    few = are.few;
    some = are.some;
  }
    where
      by_greatest : (one : Story) → Has met one ⊎ (x ≡ one) → one.failure.place ≤ place
      by_greatest one (inl has) = are.greatest one has
      by_greatest one (inr is) = subst (λ (y : Story). y.failure.place ≤ place) is le

      by_all : (one : Story) → Has met one ⊎ (x ≡ one) → one.failure.place ≡ place → f.more ≡ 0 → is_told f.told one.failure ≡ true
      by_all one (inl has) at none = are.all one has at none
      by_all one (inr is) at none =
          subst (λ (y : Story). y.failure.place ≡ place → is_told f.told y.failure ≡ true) is (λ e. told e none) at

  further_on : place < x.failure.place → AreFurthest (met ++ x ∷ []) (only x) x.failure.place
  further_on lt = record {
    told = λ one has. by_told one has;
    greatest = λ one has. by_greatest one (split met x one has);
    all = λ one has at none. by_all one (split met x one has) at;
    unlike = (λ other never. absurd never, tt);
    few = omega arith;
    some = λ e. cc;
  }
    where
      by_told : (one : Story) → Has (x ∷ []) one → Has (met ++ x ∷ []) one × (one.failure.place ≡ x.failure.place)
      by_told one (inl is) = subst (λ (y : Story). Has (met ++ x ∷ []) y × (y.failure.place ≡ x.failure.place)) is (is_last met x, refl)
      by_told one (inr never) = absurd never

      by_greatest : (one : Story) → Has met one ⊎ (x ≡ one) → one.failure.place ≤ x.failure.place
      by_greatest one (inl has) = let le = are.greatest one has in omega (arith, le, lt)
      by_greatest one (inr is) = subst (λ (y : Story). y.failure.place ≤ x.failure.place) is (omega arith)

      by_all : (one : Story) → Has met one ⊎ (x ≡ one) → one.failure.place ≡ x.failure.place → is_told (x ∷ []) one.failure ≡ true
      by_all one (inl has) at = let le = are.greatest one has in absurd (omega (arith, le, lt, at))
      by_all one (inr is) at = subst (λ (y : Story). is_told (x ∷ []) y.failure ≡ true) is (told_last [] x)

  one_more : x.failure.place ≡ place → is_told f.told x.failure ≡ false → length f.told < 8 → same (record { told = f.told ++ x ∷ []; more = f.more })
  one_more at fresh room = record {
    told = λ one has. by_told one (split f.told x one has);
    greatest = λ one has. by_greatest one (split met x one has);
    all = λ one has here none. by_all one (split met x one has) here none;
    unlike = unlike_last f.told x are.unlike fresh;
    few = let size = length-append f.told (x ∷ []) in let one : length (x ∷ []) ≡ 1 = refl in omega (arith, size, one, room);
    some = λ e. not_empty f.told e;
  }
    where
      not_empty : (told : List Story) → told ++ x ∷ [] ≡ [] → ⊥
      not_empty [] e = cc
      not_empty (t ∷ told) e = cc

      by_told : (one : Story) → Has f.told one ⊎ (x ≡ one) → Has (met ++ x ∷ []) one × (one.failure.place ≡ place)
      by_told one (inl has) = (stays met x one (are.told one has).0, (are.told one has).1)
      by_told one (inr is) = subst (λ (y : Story). Has (met ++ x ∷ []) y × (y.failure.place ≡ place)) is (is_last met x, at)

      by_greatest : (one : Story) → Has met one ⊎ (x ≡ one) → one.failure.place ≤ place
      by_greatest one (inl has) = are.greatest one has
      by_greatest one (inr is) = subst (λ (y : Story). y.failure.place ≤ place) is (omega (arith, at))

      by_all : (one : Story) → Has met one ⊎ (x ≡ one) → one.failure.place ≡ place → f.more ≡ 0 → is_told (f.told ++ x ∷ []) one.failure ≡ true
      by_all one (inl has) here none = told_stays f.told x one (are.all one has here none)
      by_all one (inr is) here none = subst (λ (y : Story). is_told (f.told ++ x ∷ []) y.failure ≡ true) is (told_last f.told x)

  no_more : x.failure.place ≡ place → same (record { told = f.told; more = f.more + 1 })
  no_more at = record {
    told = λ one has. (stays met x one (are.told one has).0, (are.told one has).1);
    greatest = λ one has. by_greatest one (split met x one has);
    all = λ one has here none. absurd (omega (arith, none));
    unlike = are.unlike;
    few = are.few;
    some = are.some;
  }
    where
      by_greatest : (one : Story) → Has met one ⊎ (x ≡ one) → one.failure.place ≤ place
      by_greatest one (inl has) = are.greatest one has
      by_greatest one (inr is) = subst (λ (y : Story). y.failure.place ≤ place) is (omega (arith, at))

  with_it : x.failure.place ≡ place → (told room : Bool) → is_told f.told x.failure ≡ told → nat_lt (length f.told) 8 ≡ room
      → same (if told then f else if room then record { told = f.told ++ x ∷ []; more = f.more } else record { told = f.told; more = f.more + 1 })
  with_it at true room is_in has_room = grown (omega (arith, at)) (λ e none. is_in)
  with_it at false true is_in has_room = one_more at is_in (ltb-true _ _ has_room)
  with_it at false false is_in has_room = no_more at

  -- what it comes to
  abbrev Comes : Furthest → Type 0
  Comes g = (p : ℕ) × AreFurthest (met ++ x ∷ []) g p

  further_by : (lt gt : Bool) → nat_lt x.failure.place place ≡ lt → nat_lt place x.failure.place ≡ gt
      → Comes (if lt then f else if gt then only x else with_one f x)
  further_by true gt e h = let lt = ltb-true x.failure.place place e in (place, grown (omega (arith, lt)) (λ at none. absurd (omega (arith, lt, at))))
  further_by false true e h = (x.failure.place, further_on (ltb-true place x.failure.place h))
  further_by false false e h =
      let le = ltb-false x.failure.place place e in let ge = ltb-false place x.failure.place h in
      (place, with_it (omega (arith, le, ge)) _ _ refl refl)

  after_by : (told : List Story) → f.told ≡ told → Comes (after f told x)
  after_by [] is = absurd (are.some is)
  after_by (one ∷ told) is =
      let at : one.failure.place ≡ place = (are.told one (subst (λ l. Has l one) (sym is) (inl refl))).1 in
      subst (λ p. Comes (further f p x)) (sym at) (further_by _ _ refl refl)

  one_failure : Comes (furthest_with f (Some x))
  one_failure = after_by f.told refl

-- ---- all of them

append_one : (met : List Story) (x : Story) (rest : List Story) → (met ++ x ∷ []) ++ rest ≡ met ++ x ∷ rest
append_one [] x rest = refl
append_one (m ∷ met) x rest = ap (λ l. m ∷ l) (append_one met x rest)

append_none : (met : List Story) → met ++ [] ≡ met
append_none [] = refl
append_none (m ∷ met) = ap (λ l. m ∷ l) (append_none met)

from_there : (met rest : List Story) (f : Furthest) (place : ℕ) → AreFurthest met f place
    → (p : ℕ) × AreFurthest (met ++ rest) (furthest_from f rest) p
from_there met [] f place are = (place, subst (λ l. AreFurthest l f place) (sym (append_none met)) are)
from_there met (x ∷ rest) f place are =
    let one = one_failure met f place are x in
    let all = from_there (met ++ x ∷ []) rest (furthest_with f (Some x)) one.0 one.1 in
    (all.0, subst (λ l. AreFurthest l (furthest_from (furthest_with f (Some x)) rest) all.0) (append_one met x rest) all.1)

alone : (x : Story) → AreFurthest (x ∷ []) (only x) x.failure.place
alone x = record {
  told = λ one has. (has, is_it one has);
  greatest = λ one has. let e = is_it one has in omega (arith, e);
  all = λ one has at none. told_it one has;
  unlike = (λ other never. absurd never, tt);
  few = omega arith;
  some = λ e. cc;
}
  where
    is_it : (one : Story) → Has (x ∷ []) one → one.failure.place ≡ x.failure.place
    is_it one (inl is) = ap (λ (y : Story). y.failure.place) (sym is)
    is_it one (inr never) = absurd never

    told_it : (one : Story) → Has (x ∷ []) one → is_told (x ∷ []) one.failure ≡ true
    told_it one (inl is) = subst (λ (y : Story). is_told (x ∷ []) y.failure ≡ true) is (told_last [] x)
    told_it one (inr never) = absurd never

pub furthest_are_furthest : FurthestAreFurthest
furthest_are_furthest first met = from_there (first ∷ []) met (only first) first.failure.place (alone first)
