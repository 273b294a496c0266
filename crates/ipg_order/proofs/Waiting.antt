-- The flags tell of each local rule which terms of its holder it waits for.
use Rattle.std.proofs.Common.{◌≡◌, ℕ, zero, suc, ◌+◌, ◌<◌, refl, sym, ap, ◌∙◌, subst, arith, List, [], ◌∷◌, Option, Some, Bool, true, false, cond, true≢false}
use Rattle.std.specs.Prelude.{slice_get, flat_map, nat_eq, Contains}
use Rattle.std.proofs.lemmas.Bool.Decides.{nat_tests}
use Rattle.ipg_core.specs.declared.grammar.CoreExpr.{CoreExpr}
use Rattle.ipg_core.specs.declared.grammar.CoreTerm.{CoreTerm}
use Rattle.ipg_core.specs.declared.grammar.CoreTerm.TheVariants.{Slot, Set, Test, Repeat, Many, Pick}
use Rattle.ipg_core.specs.Mention.{Mention, SeenOf, ItemOf, AfterOf, OwnOf, OuterOf, FieldOf, LoopOf}
use Rattle.ipg_core.specs.Order.{Sets}
use Rattle.ipg_order.specs.declared.named.Named.TheVariants.{Term, Own, Outer}
use Rattle.ipg_order.specs.Named.{named}
use Rattle.ipg_order.specs.Closure.{flag}
use Rattle.ipg_order.specs.Locals.{sets, setter}
use Rattle.ipg_order.proofs.Members.{not_in, here, in_flat, to_flat}
use Rattle.ipg_order.proofs.Handing.{only_one}

-- ---- the term that sets an attribute

pub record SetsAt (n : ℕ) (terms : List CoreTerm) (attr v : ℕ) : Type 0 where
  pub number : ℕ
  pub is : v ≡ n + number
  pub value : CoreExpr
  pub sets : slice_get terms number ≡ Some (Set attr value)

sets_later : (n : ℕ) (term : CoreTerm) (terms : List CoreTerm) (attr v : ℕ) → SetsAt (n + 1) terms attr v → SetsAt n (term ∷ terms) attr v
sets_later n term terms attr v s = record { number = suc s.number; is = let e = s.is in omega arith; value = s.value; sets = s.sets }

sets_here : (n : ℕ) (term : CoreTerm) (terms : List CoreTerm) (attr v : ℕ) → sets term attr ≡ true → n ≡ v → SetsAt n (term ∷ terms) attr v
sets_here n (Set a e) terms attr v h s =
    let same : a ≡ attr = grind (arith, nat_tests) in record { number = zero; is = omega arith; value = e; sets = ap (λ b. Some (Set b e)) same }
sets_here n (Slot slot) terms attr v h s = absurd (true≢false (sym h))
sets_here n (Test e) terms attr v h s = absurd (true≢false (sym h))
sets_here n (Repeat first last item from to) terms attr v h s = absurd (true≢false (sym h))
sets_here n (Many item from to) terms attr v h s = absurd (true≢false (sym h))
sets_here n (Pick cases other) terms attr v h s = absurd (true≢false (sym h))

abbrev some_number : ℕ → Option ℕ
some_number n = Some n

setter_by : (n : ℕ) (term : CoreTerm) (terms : List CoreTerm) (attr v : ℕ) (b : Bool) → sets term attr ≡ b
    → cond b (Some n) (setter (n + 1) terms attr) ≡ Some v
    → (setter (n + 1) terms attr ≡ Some v → SetsAt (n + 1) terms attr v) → SetsAt n (term ∷ terms) attr v
setter_by n term terms attr v true t e more = sets_here n term terms attr v t (let same : some_number n ≡ some_number v = e in cc)
setter_by n term terms attr v false t e more = sets_later n term terms attr v (more e)

pub setter_sets : (n : ℕ) (terms : List CoreTerm) (attr v : ℕ) → setter n terms attr ≡ Some v → SetsAt n terms attr v
setter_sets n [] attr v e = absurd (cc)
setter_sets n (term ∷ terms) attr v e = setter_by n term terms attr v (sets term attr) refl e (setter_sets (n + 1) terms attr v)

record Found (n : ℕ) (terms : List CoreTerm) (attr : ℕ) : Type 0 where
  number : ℕ
  is : setter n terms attr ≡ Some number

found_by : (n : ℕ) (term : CoreTerm) (terms : List CoreTerm) (attr : ℕ) (b : Bool) → sets term attr ≡ b → (b ≡ false → Found (n + 1) terms attr)
    → Found n (term ∷ terms) attr
found_by n term terms attr true t more = record { number = n; is = ap (λ b. cond b (Some n) (setter (n + 1) terms attr)) t }
found_by n term terms attr false t more = let f = more refl in record { number = f.number; is = ap (λ b. cond b (Some n) (setter (n + 1) terms attr)) t ∙ f.is }

itself_sets : (attr : ℕ) (e : CoreExpr) (term : CoreTerm) → term ≡ Set attr e → sets term attr ≡ true
itself_sets attr e term same = ap (λ t. sets t attr) same ∙ (let r : nat_eq attr attr ≡ true = grind (arith, nat_tests) in r)

first_is : (term : CoreTerm) (terms : List CoreTerm) (other : CoreTerm) → slice_get (term ∷ terms) zero ≡ Some other → term ≡ other
first_is term terms other e = cc

found : (n : ℕ) (terms : List CoreTerm) (attr number : ℕ) (e : CoreExpr) → slice_get terms number ≡ Some (Set attr e) → Found n terms attr
found n [] attr number e s = absurd (cc)
found n (term ∷ terms) attr zero e s =
    found_by n term terms attr _ refl (λ f. absurd (true≢false (sym (itself_sets attr e term (first_is term terms (Set attr e) s)) ∙ f)))
found n (term ∷ terms) attr (suc number) e s = found_by n term terms attr _ refl (λ f. found (n + 1) terms attr number e s)

-- at most one term sets an attribute
abbrev pub SetsOnce : List CoreTerm → Type 0
SetsOnce terms = (attr u v : ℕ) → Sets terms u attr → Sets terms v attr → u ≡ v

pub setter_is : (terms : List CoreTerm) (attr v : ℕ) → setter 0 terms attr ≡ Some v → Sets terms v attr
setter_is terms attr v e =
    let s = setter_sets 0 terms attr v e in
    (s.value, ap (slice_get terms) (let a : v ≡ s.number = let b = s.is in omega arith in a) ∙ s.sets)

pub is_setter : (terms : List CoreTerm) (attr v : ℕ) → SetsOnce terms → Sets terms v attr → setter 0 terms attr ≡ Some v
is_setter terms attr v once s =
    let f = found 0 terms attr v s.0 s.1 in
    f.is ∙ ap some_number (once attr f.number v (setter_is terms attr f.number f.is) s)

-- ---- names and mentions

pub own_mention : (m : Mention) (attr : ℕ) → Contains (named m) (Own attr) → m ≡ OwnOf attr
own_mention (SeenOf t s) attr c = absurd (let e = only_one (Term t) (Own attr) c in cc)
own_mention (ItemOf t) attr c = absurd (let e = only_one (Term t) (Own attr) c in cc)
own_mention (AfterOf t) attr c = absurd (let e = only_one (Term t) (Own attr) c in cc)
own_mention (OwnOf a) attr c = let e = only_one (Own a) (Own attr) c in cc
own_mention (OuterOf a) attr c = absurd (let e = only_one (Outer a) (Own attr) c in cc)
own_mention (FieldOf a) attr c = absurd (not_in _ c)
own_mention LoopOf attr c = absurd (not_in _ c)

pub outer_mention : (m : Mention) (attr : ℕ) → Contains (named m) (Outer attr) → m ≡ OuterOf attr
outer_mention (SeenOf t s) attr c = absurd (let e = only_one (Term t) (Outer attr) c in cc)
outer_mention (ItemOf t) attr c = absurd (let e = only_one (Term t) (Outer attr) c in cc)
outer_mention (AfterOf t) attr c = absurd (let e = only_one (Term t) (Outer attr) c in cc)
outer_mention (OwnOf a) attr c = absurd (let e = only_one (Own a) (Outer attr) c in cc)
outer_mention (OuterOf a) attr c = let e = only_one (Outer a) (Outer attr) c in cc
outer_mention (FieldOf a) attr c = absurd (not_in _ c)
outer_mention LoopOf attr c = absurd (not_in _ c)

pub mentioned_outer : (ms : List Mention) (attr : ℕ) → Contains (flat_map named ms) (Outer attr) → Contains ms (OuterOf attr)
mentioned_outer ms attr c = let a = in_flat named ms (Outer attr) c in subst (Contains ms) (outer_mention a.item attr a.holds) a.member

pub outer_named : (ms : List Mention) (attr : ℕ) → Contains ms (OuterOf attr) → Contains (flat_map named ms) (Outer attr)
outer_named ms attr c = to_flat named ms (OuterOf attr) (Outer attr) c (here (Outer attr) [])

-- ---- places of flags

pub same_row : (r s u v : ℕ) → flag r u ≡ flag s v → u < 256 → v < 256 → r ≡ s
same_row r s u v e h k = omega arith

pub same_column : (r s u v : ℕ) → flag r u ≡ flag s v → u < 256 → v < 256 → u ≡ v
same_column r s u v e h k = omega arith
