-- What the order of terms says: each is new, what it mentions has ended, and its providers have run.
use Rattle.std.proofs.Common.{◌≡◌, ℕ, zero, refl, sym, subst, arith, List, [], ◌∷◌, ◌++◌, length, Option, Some, Bool, true, false, true≢false, ◌⊎◌, inl, inr}
use Rattle.std.specs.Prelude.{slice_get, Contains, nat_eq, ◌||◌}
use Rattle.std.specs.List.{AllByRecursion}
use Rattle.std.proofs.lemmas.Bool.Decides.{nat_tests}
use Rattle.std.proofs.lemmas.List.Elements.{Contains-append_left, Contains-append_right}
use Rattle.ipg_core.specs.declared.grammar.CoreTerm.{CoreTerm}
use Rattle.ipg_core.specs.Grammar.{Grammar}
use Rattle.ipg_core.specs.Mention.{Mention, SeenOf, ItemOf, AfterOf, OwnOf, OuterOf, FieldOf, LoopOf, term_mentions}
use Rattle.ipg_core.specs.Order.{Provides, is_taken, IsProvided, IsNext, InOrder}
use Rattle.ipg_core.specs.Good.{IsGoodMention}
use Rattle.ipg_facts.specs.Reading.{Scope}
use Rattle.ipg_facts_laws.specs.Grows.{IsSettled}
use Rattle.ipg_facts_laws.specs.Ran.{AtRan, AllRan}
use Rattle.ipg_core.specs.Environment.{Environment}
use Rattle.ipg_facts_laws.proofs.Came.{or_taken}
use Rattle.ipg_facts_laws.proofs.Steps.{Runs, passed}

pub contains_first : {X : Type 0} (x : X) (xs : List X) → Contains (x ∷ xs) x
contains_first x xs = Contains-append_left (x ∷ []) xs x (zero, omega arith, refl)

pub contains_later : {X : Type 0} (y : X) (xs : List X) (x : X) → Contains xs x → Contains (y ∷ xs) x
contains_later y xs x h = Contains-append_right (y ∷ []) xs x h

all_with : {X : Type 0} (P Q : X → Type 0) (xs : List X) → ((x : X) → Contains xs x → P x → Q x) → AllByRecursion P xs → AllByRecursion Q xs
all_with P Q [] h k = tt
all_with P Q (x ∷ xs) h k = (h x (contains_first x xs) k.0, all_with P Q xs (λ y m. h y (contains_later x xs y m)) k.1)

pub taken_or : (b c : Bool) → b || c ≡ true → (b ≡ true) ⊎ (c ≡ true)
taken_or true c e = inl refl
taken_or false c e = inr e

pub same_of : (u t : ℕ) → nat_eq u t ≡ true → u ≡ t
same_of u t e = grind (arith, nat_tests)

pub taken_still : (taken before : List ℕ) (t : ℕ) → is_taken taken t ≡ true → is_taken (passed taken before) t ≡ true
taken_still taken [] t h = h
taken_still taken (u ∷ before) t h = taken_still (u ∷ taken) before t (or_taken (nat_eq u t) (is_taken taken t) h)

module _ (g : Grammar) (at : ℕ × ℕ) (holder : Option (ℕ × ℕ)) (scope : Scope)
    (good : (u : ℕ) (term : CoreTerm) → slice_get scope.terms u ≡ Some term → AllByRecursion (IsGoodMention g holder scope.terms u) (term_mentions term)) where
  abbrev Before : ℕ → ℕ → Type 0
  Before = Provides g at scope.terms

  settled_mention : (taken : List ℕ) (u : ℕ) (term : CoreTerm) → slice_get scope.terms u ≡ Some term → IsProvided Before taken u
      → (m : Mention) → Contains (term_mentions term) m → IsGoodMention g holder scope.terms u m → IsSettled (is_taken taken) m
  settled_mention taken u term is_term provided (SeenOf t one) c h = tt
  settled_mention taken u term is_term provided (ItemOf t) c h = tt
  settled_mention taken u term is_term provided (AfterOf t) c h =
      provided t (record { other = h.1; term = term; is_term = is_term; how = inl (record { mention = AfterOf t; stands = c; needs = refl }) })
  settled_mention taken u term is_term provided (OwnOf a) c h = tt
  settled_mention taken u term is_term provided (OuterOf a) c h = tt
  settled_mention taken u term is_term provided (FieldOf a) c h = tt
  settled_mention taken u term is_term provided LoopOf c h = tt

  pub settled : (taken : List ℕ) (u : ℕ) → IsNext Before (length scope.terms) taken u → (term : CoreTerm) → slice_get scope.terms u ≡ Some term
      → AllByRecursion (IsSettled (is_taken taken)) (term_mentions term)
  settled taken u next term is_term =
      all_with (IsGoodMention g holder scope.terms u) (IsSettled (is_taken taken)) (term_mentions term) (settled_mention taken u term is_term next.provided)
      (good u term is_term)

  abbrev Ordered : List ℕ → List ℕ → Type 0
  Ordered = InOrder Before (length scope.terms)

  -- terms in their order, then those behind them
  pub in_order : (taken before behind : List ℕ) → Ordered taken (before ++ behind) → Ordered (passed taken before) behind
  in_order taken [] behind o = o
  in_order taken (u ∷ before) behind o = in_order (u ∷ taken) before behind o.1

  pub runs : (taken before behind : List ℕ) → Ordered taken (before ++ behind) → Runs scope taken before
  runs taken [] behind o = tt
  runs taken (u ∷ before) behind o = ((o.0.fresh, settled taken u o.0), runs (u ∷ taken) before behind o.1)

  -- a provider of a term that has run has run
  abbrev Provided : List ℕ → ℕ → Type 0
  Provided done w = (v : ℕ) → Before w v → is_taken done v ≡ true

  provided_by : (taken before : List ℕ) (u w : ℕ) → IsProvided Before taken u → (nat_eq u w ≡ true) ⊎ (is_taken taken w ≡ true)
      → (is_taken taken w ≡ true) ⊎ Provided (passed taken (u ∷ before)) w
  provided_by taken before u w o (inr t) = inl t
  provided_by taken before u w o (inl t) =
      inr (λ v p. taken_still (u ∷ taken) before v
      (or_taken (nat_eq u v) (is_taken taken v) (o v (subst (λ x. Before x v) (sym (same_of u w t)) p))))

  provided_first : (taken before : List ℕ) (u w : ℕ) → IsProvided Before taken u → (is_taken (u ∷ taken) w ≡ true) ⊎ Provided (passed taken (u ∷ before)) w
      → (is_taken taken w ≡ true) ⊎ Provided (passed taken (u ∷ before)) w
  provided_first taken before u w o (inr p) = inr p
  provided_first taken before u w o (inl e) = provided_by taken before u w o (taken_or (nat_eq u w) (is_taken taken w) e)

  provided_of : (taken before behind : List ℕ) → Ordered taken (before ++ behind) → (w : ℕ) → is_taken (passed taken before) w ≡ true
      → (is_taken taken w ≡ true) ⊎ Provided (passed taken before) w
  provided_of taken [] behind o w h = inl h
  provided_of taken (u ∷ before) behind o w h = provided_first taken before u w o.0.provided (provided_of (u ∷ taken) before behind o.1 w h)

  from_none : (done : List ℕ) (w : ℕ) → (is_taken [] w ≡ true) ⊎ Provided done w → (v : ℕ) → Before w v → is_taken done v ≡ true
  from_none done w (inl e) v p = absurd (true≢false (sym e))
  from_none done w (inr h) v p = h v p

  pub provided : (before behind : List ℕ) → Ordered [] (before ++ behind) → (w v : ℕ) → is_taken (passed [] before) w ≡ true → Before w v
      → is_taken (passed [] before) v ≡ true
  provided before behind o w v h p = from_none (passed [] before) w (provided_of [] before behind o w h) v p

-- ---- terms that have run, whatever their order

module _ (scope : Scope) (env : Environment) where
  abbrev RanAt : ℕ → Type 0
  RanAt t = AtRan scope.marks env t (slice_get scope.terms t)

  at_ran : (taken before : List ℕ) → AllRan scope env before → (t : ℕ) → is_taken (passed taken before) t ≡ true → (is_taken taken t ≡ true) ⊎ RanAt t
  at_ran taken [] ran t h = inl h
  at_ran taken (u ∷ before) ran t h = by_case (at_ran (u ∷ taken) before ran.1 t h)
    where
      first : (nat_eq u t ≡ true) ⊎ (is_taken taken t ≡ true) → (is_taken taken t ≡ true) ⊎ RanAt t
      first (inl e) = inr (subst RanAt (same_of u t e) ran.0)
      first (inr e) = inl e

      by_case : (is_taken (u ∷ taken) t ≡ true) ⊎ RanAt t → (is_taken taken t ≡ true) ⊎ RanAt t
      by_case (inl e) = first (taken_or (nat_eq u t) (is_taken taken t) e)
      by_case (inr r) = inr r

  ran_from_none : (t : ℕ) → (is_taken [] t ≡ true) ⊎ RanAt t → RanAt t
  ran_from_none t (inl e) = absurd (true≢false (sym e))
  ran_from_none t (inr r) = r

  pub some_ran : (before : List ℕ) → AllRan scope env before → (these : List ℕ) → AllByRecursion (λ t. is_taken (passed [] before) t ≡ true) these
      → AllRan scope env these
  some_ran before ran [] h = tt
  some_ran before ran (t ∷ these) h = (ran_from_none t (at_ran [] before ran t h.0), some_ran before ran these h.1)
