-- The keys that have to run are one set.
use Rattle.std.proofs.Common.{◌≡◌, ℕ, ◌+◌, ◌≤◌, refl, sym, ap, ◌∙◌, subst, arith, List, [], ◌∷◌, length, ◌⊎◌, inl, inr}
use Rattle.ipg_core.specs.Grammar.{Grammar}
use Rattle.ipg_mach_moves.specs.Moves.{Key}
use Rattle.ipg_mach_count_laws.specs.Counts.{direct, Has, NoneTwice, IsChain, calls_by}
use Rattle.ipg_mach_count_laws.specs.Kept.{AreAmong, AreApart, IsFresh}
use Rattle.ipg_mach_count_laws.specs.Laws.{NoneWhereFirstKept, AllWhereNoneKept, FewerWhereMoreKept, OneFresh, OneReach}

-- ---- a number for each key, and their sum

abbrev total : (Key → ℕ) → List Key → ℕ
total number [] = 0
total number (key ∷ keys) = number key + total number keys

-- without one of them
record Without (number : Key → ℕ) (keys : List Key) (key : Key) : Type 0 where
  rest : List Key
  is : total number keys ≡ number key + total number rest
  other : (one : Key) → Has keys one → (key ≡ one) ⊎ Has rest one

without : (number : Key → ℕ) (keys : List Key) (key : Key) → Has keys key → Without number keys key
without number (one ∷ keys) key (inl same) = record {
  rest = keys;
  is = ap (λ one. number one + total number keys) same;
  other = λ other has. elim has [ inl is ↦ inl (sym same ∙ is) | inr more ↦ inr more ];
}
without number (one ∷ keys) key (inr has) =
    let it = without number keys key has in
    let is = it.is in
    record {
      rest = one ∷ it.rest;
      is = omega arith;
      other = λ other has. elim has [
        | inl is ↦ inr (inl is)
        | inr more ↦ elim (it.other other more) [ inl same ↦ inl same | inr old ↦ inr (inr old) ]
      ];
    }
without number [] key has = absurd has

-- each once, and all of them among others, they make no more
no_more : (number : Key → ℕ) (keys more : List Key) → NoneTwice keys → AreAmong keys more → total number keys ≤ total number more
no_more number [] more once among = (omega arith)
no_more number (key ∷ keys) more once among =
    let it = without number more key (among key (inl refl)) in
    let is = it.is in
    let rest = no_more number keys it.rest once.1 (λ one has. elim (it.other one (among one (inr has))) [
      | inl same ↦ absurd (once.0 (subst (Has keys) (sym same) has))
      | inr old ↦ old
    ]) in
    omega arith

lengths : (keys : List Key) → length keys ≡ total (λ key. 1) keys
lengths [] = refl
lengths (key ∷ keys) = let e = lengths keys in omega arith

calls : (g : Grammar) (s : List ℕ) (h : ℕ) (keys : List Key) → calls_by g s h keys ≡ total (λ key. length (direct g s h key)) keys
calls g s h [] = refl
calls g s h (key ∷ keys) = ap (λ n. length (direct g s h key) + n) (calls g s h keys)

-- ---- where more are kept

module _ (g : Grammar) (s : List ℕ) (h : ℕ) where
  -- a key that has to run where more are kept has to run where fewer are
  runs_too : (kept more keys : List Key) (fresh : IsFresh g s h kept keys) → AreAmong kept more → (key : Key) (chain : List Key) → IsChain g s h key chain
      → AreApart chain more → (Has more key → ⊥) → Has keys key
  runs_too kept more keys fresh among key [] first apart not_kept = elim fresh.first [
    | inl has ↦ subst (Has keys) first has
    | inr old ↦ absurd (not_kept (among key (subst (Has kept) first old)))
  ]
  runs_too kept more keys fresh among key (caller ∷ chain) linked apart not_kept =
      let calls = runs_too kept more keys fresh among caller chain linked.1 (λ one has. apart one (inr has)) (apart caller (inl refl)) in
      elim (fresh.closed caller key calls linked.0) [
        | inl has ↦ has
        | inr old ↦ absurd (not_kept (among key old))
      ]

  no_others : (kept more fewer keys : List Key) → AreAmong kept more → IsFresh g s h kept keys → IsFresh g s h more fewer → AreAmong fewer keys
  no_others kept more fewer keys among fresh less key has =
      let reached = less.only key has in
      runs_too kept more keys fresh among key reached.0 reached.1 reached.2 (less.new key has)

pub fewer_where_more_kept : FewerWhereMoreKept
fewer_where_more_kept g s h kept more_kept less keys among fresh fresh_less =
    let subset = no_others g s h kept more_kept less keys among fresh fresh_less in
    let le = no_more (λ key. 1) less keys fresh_less.once subset in
    let one = lengths less in
    let two = lengths keys in
    (subset, omega arith)

pub one_fresh : OneFresh
one_fresh g s h kept same_kept keys same kept_same fresh other =
    let there = no_others g s h same_kept kept keys same kept_same.1 other fresh in
    let back = no_others g s h kept same_kept same keys kept_same.0 fresh other in
    let both : (number : Key → ℕ) → total number keys ≡ total number same = λ number.
    let one = no_more number keys same fresh.once there in
    let two = no_more number same keys other.once back in
    omega arith in
    ((there, back), lengths keys ∙ both _ ∙ sym (lengths same), calls g s h keys ∙ both _ ∙ sym (calls g s h same))

-- ---- where the first is kept, and where none is

pub none_where_first_kept : NoneWhereFirstKept
none_where_first_kept g s h kept has = record {
  once = tt;
  new = λ key none. absurd none;
  first = inr has;
  closed = λ key called none calls. absurd none;
  only = λ key none. absurd none;
}

pub all_where_none_kept : AllWhereNoneKept
all_where_none_kept g s h keys = (
  λ reach. record {
    once = reach.once;
    new = λ key has none. none;
    first = inl reach.first;
    closed = λ key called has calls. inl (reach.closed key called has calls);
    only = λ key has. let chain = reach.only key has in (chain.0, chain.1, λ one has none. none);
  },
  λ fresh. record {
    once = fresh.once;
    first = elim fresh.first [ inl has ↦ has | inr none ↦ absurd none ];
    closed = λ key called has calls. elim (fresh.closed key called has calls) [ inl more ↦ more | inr none ↦ absurd none ];
    only = λ key has. let chain = fresh.only key has in (chain.0, chain.1);
  },
)

pub one_reach : AllWhereNoneKept → OneFresh → OneReach
one_reach all one g s h keys same reach other =
    one g s h [] [] keys same (λ key none. none, λ key none. none) ((all g s h keys).0 reach) ((all g s h same).0 other)
