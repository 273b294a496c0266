-- Failures that change nothing of what is told.
use Rattle.std.proofs.Common.{◌≡◌, ◌⊎◌, inl, inr, ℕ, ◌+◌, ◌<◌, ◌≤◌, refl, subst, arith, List, [], ◌∷◌, ◌++◌, Option, Some, None, Bool}
use Rattle.std.proofs.Common.{true, false, length}
use Rattle.std.specs.Prelude.{nat_lt, if◌then◌else◌, ◌||◌}
use Rattle.std.specs.List.{AllByRecursion}
use Rattle.std.proofs.lemmas.Bool.{eq-eqb, ltb-true, ltb-false}
use Rattle.ipg_mach_failures.specs.declared.failure.Failure.{Failure}
use Rattle.ipg_mach_failures.specs.declared.story.Story.{Story}
use Rattle.ipg_mach_failures.specs.Furthest.{Furthest, alike, is_told, only, with_one, furthest_with, furthest_from, in_front}
use Rattle.ipg_mach_failure_laws.specs.Laws.{IsToldAs}

-- it lies nearer than what is told; or there, and it is told, or so many are that it is counted, as one was
abbrev pub IsSettledBy : List Story → ℕ → Failure → Type 0
IsSettledBy [] more failure = ⊥
IsSettledBy (one ∷ told) more failure = (failure.place < one.failure.place) ⊎
    ((failure.place ≡ one.failure.place) × ((is_told (one ∷ told) failure ≡ true) ⊎ ((8 ≤ length (one ∷ told)) × (0 < more))))

abbrev pub IsSettled : Furthest → Failure → Type 0
IsSettled f failure = IsSettledBy f.told f.more failure

abbrev pub IsSettledIfAny : Furthest → Option Failure → Type 0
IsSettledIfAny f None = Unit {0}
IsSettledIfAny f (Some failure) = IsSettled f failure

abbrev pub AreSettled : Furthest → List Story → Type 0
AreSettled f met = AllByRecursion (λ (one : Story). IsSettled f one.failure) met

-- ---- what is told

alike_self : (x : Failure) → alike x x ≡ true
alike_self x = rw (eq-eqb x.rule x.rule refl) (rw (eq-eqb x.alt x.alt refl) (rw (eq-eqb x.term x.term refl) (eq-eqb x.branch x.branch refl)))

or_true : (b : Bool) → b || true ≡ true
or_true true = refl
or_true false = refl

or_grows : (a b c : Bool) → (b ≡ true → c ≡ true) → a || b ≡ true → a || c ≡ true
or_grows true b c h e = refl
or_grows false b c h e = h e

told_stays : (told : List Story) (x : Story) (failure : Failure) → is_told told failure ≡ true → is_told (told ++ x ∷ []) failure ≡ true
told_stays [] x failure e = absurd (cc)
told_stays (t ∷ told) x failure e =
    or_grows (alike t.failure failure) (is_told told failure) (is_told (told ++ x ∷ []) failure) (told_stays told x failure) e

told_last : (told : List Story) (x : Story) → is_told (told ++ x ∷ []) x.failure ≡ true
told_last [] x = let self = alike_self x.failure in rw self refl
told_last (t ∷ told) x = let rest = told_last told x in rw rest (or_true (alike t.failure x.failure))

-- ---- one more failure

abbrev row : List Story → ℕ → Furthest
row told more = record { told = told; more = more }

module _ (one : Story) (told : List Story) (x : Story) where
  abbrev all : List Story
  all = one ∷ told

  -- what was settled stays so
  module _ (more : ℕ) (failure : Failure) where
    kept_by : (is room : Bool) → nat_lt (length all) 8 ≡ room → IsSettledBy all more failure
        → IsSettled (if is then row all more else if room then row (all ++ x ∷ []) more else row all (more + 1)) failure
    kept_by true room e h = h
    kept_by false true e (inl near) = inl near
    kept_by false true e (inr (at, inl told)) = inr (at, inl (told_stays all x failure told))
    kept_by false true e (inr (at, inr (full, some))) = let lt = ltb-true _ _ e in absurd (omega (arith, lt, full))
    kept_by false false e (inl near) = inl near
    kept_by false false e (inr (at, inl told)) = inr (at, inl told)
    kept_by false false e (inr (at, inr (full, some))) = inr (at, inr (full, omega arith))

    behind : one.failure.place < x.failure.place → IsSettledBy all more failure → failure.place < x.failure.place
    behind lt (inl near) = omega (arith, lt, near)
    behind lt (inr (at, h)) = omega (arith, lt, at)

    stays_by : (lt gt : Bool) → nat_lt one.failure.place x.failure.place ≡ gt → IsSettledBy all more failure
        → IsSettled (if lt then row all more else if gt then only x else with_one (row all more) x) failure
    stays_by true gt e h = h
    stays_by false true e h = inl (behind (ltb-true _ _ e) h)
    stays_by false false e h = kept_by _ _ refl h

  -- it is settled itself from then on
  module _ (more : ℕ) where
    self_by : (is room : Bool) → x.failure.place ≡ one.failure.place → is_told all x.failure ≡ is → nat_lt (length all) 8 ≡ room
        → IsSettled (if is then row all more else if room then row (all ++ x ∷ []) more else row all (more + 1)) x.failure
    self_by true room at is e = inr (at, inl is)
    self_by false true at is e = inr (at, inl (told_last all x))
    self_by false false at is e = inr (at, inr (ltb-false _ _ e, omega arith))

    settles_by : (lt gt : Bool) → nat_lt x.failure.place one.failure.place ≡ lt → nat_lt one.failure.place x.failure.place ≡ gt
        → IsSettled (if lt then row all more else if gt then only x else with_one (row all more) x) x.failure
    settles_by true gt e h = inl (ltb-true _ _ e)
    settles_by false true e h = inr (refl, inl (told_last [] x))
    settles_by false false e h = let le = ltb-false _ _ e in let ge = ltb-false _ _ h in self_by _ _ (omega (arith, le, ge)) refl refl

  -- where others are counted too
  module _ (few many : ℕ) (le : few ≤ many) (none : few ≡ 0 → many ≡ 0) where
    abbrev As : Furthest → Furthest → Type 0
    As f other = IsToldAs f other

    counts_by : (is room : Bool) → As (if is then row all few else if room then row (all ++ x ∷ []) few else row all (few + 1))
        (if is then row all many else if room then row (all ++ x ∷ []) many else row all (many + 1))
    counts_by true room = record { told = refl; fewer = le; none = none }
    counts_by false true = record { told = refl; fewer = le; none = none }
    counts_by false false = record { told = refl; fewer = omega (arith, le); none = λ e. absurd (omega (arith, e)) }

    both_by : (lt gt : Bool) → As (if lt then row all few else if gt then only x else with_one (row all few) x)
        (if lt then row all many else if gt then only x else with_one (row all many) x)
    both_by true gt = record { told = refl; fewer = le; none = none }
    both_by false true = record { told = refl; fewer = omega arith; none = λ e. refl }
    both_by false false = counts_by _ _

    -- one that is settled is counted by the other at most
    full_by : (is room : Bool) → nat_lt (length all) 8 ≡ room → (is ≡ true) ⊎ ((8 ≤ length all) × (0 < few))
        → As (row all few) (if is then row all many else if room then row (all ++ x ∷ []) many else row all (many + 1))
    full_by true room e h = record { told = refl; fewer = le; none = none }
    full_by false true e (inl never) = absurd (cc)
    full_by false true e (inr (full, some)) = let lt = ltb-true _ _ e in absurd (omega (arith, lt, full))
    full_by false false e (inl never) = absurd (cc)
    full_by false false e (inr (full, some)) = record { told = refl; fewer = omega (arith, le); none = λ e. absurd (omega (arith, e, some)) }

    alone_by : (lt gt : Bool) → nat_lt x.failure.place one.failure.place ≡ lt → nat_lt one.failure.place x.failure.place ≡ gt
        → IsSettledBy all few x.failure → As (row all few) (if lt then row all many else if gt then only x else with_one (row all many) x)
    alone_by true gt e h settled = record { told = refl; fewer = le; none = none }
    alone_by false true e h (inl near) = let lt = ltb-true _ _ h in absurd (omega (arith, lt, near))
    alone_by false true e h (inr (at, rest)) = let lt = ltb-true _ _ h in absurd (omega (arith, lt, at))
    alone_by false false e h (inl near) = let le = ltb-false _ _ e in absurd (omega (arith, le, near))
    alone_by false false e h (inr (at, rest)) = full_by _ _ refl rest

stays_row : (told : List Story) (more : ℕ) (x : Story) (failure : Failure) → IsSettledBy told more failure
    → IsSettled (furthest_with (row told more) (Some x)) failure
stays_row [] more x failure h = absurd h
stays_row (one ∷ told) more x failure h = stays_by one told x more failure _ _ refl h

settles_row : (told : List Story) (more : ℕ) (x : Story) → IsSettled (furthest_with (row told more) (Some x)) x.failure
settles_row [] more x = inr (refl, inl (told_last [] x))
settles_row (one ∷ told) more x = settles_by one told x more _ _ refl refl

both_row : (told : List Story) (few many : ℕ) (x : Story) → few ≤ many → (few ≡ 0 → many ≡ 0)
    → IsToldAs (furthest_with (row told few) (Some x)) (furthest_with (row told many) (Some x))
both_row [] few many x le none = record { told = refl; fewer = omega arith; none = λ e. refl }
both_row (one ∷ told) few many x le none = both_by one told x few many le none _ _

alone_row : (told : List Story) (few many : ℕ) (x : Story) → few ≤ many → (few ≡ 0 → many ≡ 0) → IsSettledBy told few x.failure
    → IsToldAs (row told few) (furthest_with (row told many) (Some x))
alone_row [] few many x le none h = absurd h
alone_row (one ∷ told) few many x le none h = alone_by one told x few many le none _ _ refl refl h

-- ---- what is told of them

pub stays_settled : (f : Furthest) (x : Option Story) (failure : Failure) → IsSettled f failure → IsSettled (furthest_with f x) failure
stays_settled f None failure h = h
stays_settled f (Some x) failure h = stays_row f.told f.more x failure h

pub settles_itself : (f : Furthest) (x : Story) → IsSettled (furthest_with f (Some x)) x.failure
settles_itself f x = settles_row f.told f.more x

pub same_told : (f : Furthest) → IsToldAs f f
same_told f = record { told = refl; fewer = omega arith; none = λ e. e }

pub both_told : (f other : Furthest) (x : Option Story) → IsToldAs f other → IsToldAs (furthest_with f x) (furthest_with other x)
both_told f other None h = h
both_told f other (Some x) h =
    subst (λ told. IsToldAs (furthest_with f (Some x)) (furthest_with (row told other.more) (Some x))) h.told
    (both_row f.told f.more other.more x h.fewer h.none)

alone_told : (f other : Furthest) (x : Story) → IsSettled f x.failure → IsToldAs f other → IsToldAs f (furthest_with other (Some x))
alone_told f other x settled h =
    subst (λ told. IsToldAs f (furthest_with (row told other.more) (Some x))) h.told (alone_row f.told f.more other.more x h.fewer h.none settled)

-- failures that are settled by the one may be met by the other
pub others_told : (met : List Story) (f other : Furthest) → AreSettled f met → IsToldAs f other → IsToldAs f (furthest_from other met)
others_told [] f other settled h = h
others_told (x ∷ met) f other settled h = others_told met f (furthest_with other (Some x)) settled.1 (alone_told f other x settled.0 h)

-- ---- lists of failures

pub all_stay : (f : Furthest) (x : Option Story) (met : List Story) → AreSettled f met → AreSettled (furthest_with f x) met
all_stay f x [] h = tt
all_stay f x (one ∷ met) h = (stays_settled f x one.failure h.0, all_stay f x met h.1)

pub all_both : (f : Furthest) (met more : List Story) → AreSettled f met → AreSettled f more → AreSettled f (met ++ more)
all_both f [] more h k = k
all_both f (one ∷ met) more h k = (h.0, all_both f met more h.1 k)

pub from_front : (f : Furthest) (x : Option Story) (met : List Story) → furthest_from f (in_front x met) ≡ furthest_from (furthest_with f x) met
from_front f None met = refl
from_front f (Some x) met = refl

pub from_both : (f : Furthest) (met more : List Story) → furthest_from f (met ++ more) ≡ furthest_from (furthest_from f met) more
from_both f [] more = refl
from_both f (x ∷ met) more = from_both (furthest_with f (Some x)) met more

pub front_both : (x : Option Story) (met more : List Story) → in_front x met ++ more ≡ in_front x (met ++ more)
front_both None met more = refl
front_both (Some x) met more = refl
