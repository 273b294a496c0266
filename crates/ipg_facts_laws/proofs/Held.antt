-- The terms of a holder that matter to a caller have run where it is called.
use Rattle.std.proofs.Common.{◌≡◌, ℕ, zero, suc, refl, sym, ap, ◌∙◌, subst, arith, List, [], ◌∷◌, length, Option, Some, None, Bool, true, false}
use Rattle.std.proofs.Common.{true≢false, ◌||◌, ◌⊎◌, inl, inr}
use Rattle.std.specs.Prelude.{slice_get, Contains, nat_eq, option_map}
use Rattle.std.specs.List.{AllByRecursion, list_any}
use Rattle.std.proofs.lemmas.Bool.{and_parts}
use Rattle.std.proofs.lemmas.Bool.Decides.{nat_tests}
use Rattle.std.proofs.lemmas.Option.{slice_get-map}
use Rattle.ipg_core.specs.declared.grammar.Sym.{Sym}
use Rattle.ipg_core.specs.declared.grammar.Sym.TheVariants.{Text, Prim, Rule}
use Rattle.ipg_core.specs.declared.grammar.CoreExpr.{CoreExpr}
use Rattle.ipg_core.specs.declared.grammar.CoreTerm.{CoreTerm}
use Rattle.ipg_core.specs.declared.grammar.CoreTerm.TheVariants.{Slot, Set, Test, Repeat, Many, Pick}
use Rattle.ipg_core.specs.declared.grammar.CoreAlt.{CoreAlt}
use Rattle.ipg_core.specs.declared.grammar.CoreRule.{CoreRule}
use Rattle.ipg_core.specs.Grammar.{Grammar, rule_at, holder_of, same_place}
use Rattle.ipg_core.specs.Mention.{Mention, SeenOf, ItemOf, AfterOf, OwnOf, OuterOf, FieldOf, LoopOf, term_mentions, term_syms}
use Rattle.ipg_core.specs.MustTouch.{or_false, is_marked}
use Rattle.ipg_core.specs.Order as order
use Rattle.ipg_core.specs.Order.{Sets, TermOf, Reads, itself, through, Passes, Names, Provides, is_taken}
use Rattle.ipg_core.specs.Grown.{LeadsTo}
use Rattle.ipg_core.specs.Grown as grown
use Rattle.ipg_facts_holder.specs.declared.mention.Ask.TheVariants.{Outer, Needs}
use Rattle.ipg_facts_holder.specs.Holder.{is_set_to, answers, mentions_some, set_by, is_held, calls, calls_some, reads_term, reads_next, readers, readers_of}
use Rattle.ipg_facts_holder.specs.Holder.{provides, is_wanted, matters, with_term, kept}
use Rattle.ipg_facts_laws.proofs.Ordered.{contains_first, contains_later, taken_or, same_of}

record Found {X : Type 0} (p : X → Bool) (xs : List X) : Type 0 where
  one : X
  there : Contains xs one
  passes : p one ≡ true

found_later : {X : Type 0} (p : X → Bool) (x : X) (xs : List X) → Found p xs → Found p (x ∷ xs)
found_later p x xs f = record { one = f.one; there = contains_later x xs f.one f.there; passes = f.passes }

found_by : {X : Type 0} (p : X → Bool) (x : X) (xs : List X) (b : Bool) → p x ≡ b → b || list_any p xs ≡ true → (list_any p xs ≡ true → Found p xs)
    → Found p (x ∷ xs)
found_by p x xs true e h k = record { one = x; there = contains_first x xs; passes = e }
found_by p x xs false e h k = found_later p x xs (k h)

some_passes : {X : Type 0} (p : X → Bool) (xs : List X) → list_any p xs ≡ true → Found p xs
some_passes p [] h = absurd (cc)
some_passes p (x ∷ xs) h = found_by p x xs (p x) refl h (some_passes p xs)

-- ---- attributes of the holder

mentioned : (attr : ℕ) (m : Mention) → answers (Outer attr) m ≡ true → m ≡ OuterOf attr
mentioned attr (OuterOf a) e = ap OuterOf (same_of a attr e)
mentioned attr (SeenOf t one) e = absurd (cc)
mentioned attr (ItemOf t) e = absurd (cc)
mentioned attr (AfterOf t) e = absurd (cc)
mentioned attr (OwnOf a) e = absurd (cc)
mentioned attr (FieldOf a) e = absurd (cc)
mentioned attr LoopOf e = absurd (cc)

mentions_outer : (attr : ℕ) (term : CoreTerm) → mentions_some (Outer attr) term ≡ true → Contains (term_mentions term) (OuterOf attr)
unfolding mentions_some
mentions_outer attr term h =
    let f = some_passes (answers (Outer attr)) (term_mentions term) h in
    subst (Contains (term_mentions term)) (mentioned attr f.one f.passes) f.there

-- ---- rules that read

record Called (g : Grammar) (at : Option (ℕ × ℕ)) (marks : List Bool) (one : Sym) : Type 0 where
  callee : ℕ
  is_rule : one ≡ Rule callee
  is_local : is_held at (holder_of (rule_at g callee)) ≡ true
  marked : is_marked marks callee ≡ true

called : (g : Grammar) (at : Option (ℕ × ℕ)) (marks : List Bool) (one : Sym) → calls g at marks one ≡ true → Called g at marks one
called g at marks (Text bytes) e = absurd (cc)
called g at marks (Prim prim) e = absurd (cc)
called g at marks (Rule callee) e =
    let parts = and_parts (is_held at (holder_of (rule_at g callee))) (is_marked marks callee) e in
    record { callee = callee; is_rule = refl; is_local = parts.0; marked = parts.1 }

-- the holder of a local rule
holder_is : (o : Option (ℕ × ℕ)) → is_held None o ≡ true → (holder : ℕ × ℕ) × (o ≡ Some holder)
holder_is None e = absurd (cc)
holder_is (Some holder) e = (holder, refl)

same_pair : (a b : ℕ × ℕ) → same_place a b ≡ true → a ≡ b
same_pair (a, b) (c, d) e =
    let parts = and_parts (nat_eq a c) (nat_eq b d) e in
    ap (λ x. (x, b)) (same_of a c parts.0) ∙ ap (λ y. (c, y)) (same_of b d parts.1)

held_by : (at : ℕ × ℕ) (o : Option (ℕ × ℕ)) → is_held (Some at) o ≡ true → o ≡ Some at
held_by at None e = absurd (cc)
held_by at (Some holder) e = ap Some (same_pair holder at e)

pub contains_at : {X : Type 0} (xs : List X) (k : ℕ) (x : X) → slice_get xs k ≡ Some x → Contains xs x
contains_at [] k x e = absurd (cc)
contains_at (y ∷ xs) zero x e = let same : y ≡ x = cc in subst (Contains (y ∷ xs)) same (contains_first y xs)
contains_at (y ∷ xs) (suc k) x e = contains_later y xs x (contains_at xs k x e)

unmarked : (rule : Option CoreRule) → or_false (option_map (λ (r : CoreRule). false) rule) ≡ true → ⊥
unmarked None h = true≢false (sym h)
unmarked (Some rule) h = true≢false (sym h)

marked_rule : (p : CoreRule → Bool) (rule : Option CoreRule) → or_false (option_map p rule) ≡ true → (r : CoreRule) × (rule ≡ Some r) × (p r ≡ true)
marked_rule p None h = absurd (true≢false (sym h))
marked_rule p (Some rule) h = (rule, refl, h)

module _ (g : Grammar) (attr : ℕ) where
  term_reads : (r : ℕ) (term : CoreTerm) (marks : List Bool) → TermOf g r term → ((callee : ℕ) → is_marked marks callee ≡ true → Reads g attr callee)
      → (mentions_some (Outer attr) term ≡ true) ⊎ (calls_some g None marks term ≡ true) → Reads g attr r
  unfolding calls_some
  term_reads r term marks of h (inl e) = itself r term of (mentions_outer attr term e)
  term_reads r term marks of h (inr e) =
      let f = some_passes (calls g None marks) (term_syms term) e in
      let c = called g None marks f.one f.passes in
      let o = holder_is (holder_of (rule_at g c.callee)) c.is_local in
      through r c.callee o.0 term of (subst (Contains (term_syms term)) c.is_rule f.there) o.1 (h c.callee c.marked)

  pub reads : (k r : ℕ) → is_marked (readers g attr k) r ≡ true → Reads g attr r
  unfolding readers reads_next reads_term
  reads zero r h = absurd (unmarked (slice_get g.rules r) (sym (ap or_false (slice_get-map (λ (rule : CoreRule). false) g.rules r)) ∙ h))
  reads (suc k) r h =
      let marks : List Bool = readers g attr k in
      let p : CoreRule → Bool = reads_next g attr marks in
      let rule = marked_rule p (slice_get g.rules r) (sym (ap or_false (slice_get-map p g.rules r)) ∙ h) in
      let alt = some_passes (λ (a : CoreAlt). list_any (reads_term g attr marks) a.terms) rule.0.alts rule.2 in
      let term = some_passes (reads_term g attr marks) alt.one.terms alt.passes in
      term_reads r term.one marks (record { rule = rule.0; alt = alt.one; is_rule = rule.1; is_alt = alt.there; is_term = term.there }) (reads k)
      (taken_or (mentions_some (Outer attr) term.one) (calls_some g None marks term.one) term.passes)

  -- what a rule reads each rule reads that leads to it
  pub read_before : (holder : ℕ × ℕ) (first r : ℕ) → LeadsTo g holder first r → Reads g attr r → Reads g attr first
  read_before holder first r grown.itself h = h
  read_before holder first r (grown.further q callee term leads of calls local) h =
      read_before holder first q leads (through q callee holder term of calls local h)

-- ---- providers

set_is : (o : Option CoreTerm) (attr : ℕ) → set_by o ≡ Some attr → (e : CoreExpr) × (o ≡ Some (Set attr e))
set_is None attr h = absurd (cc)
set_is (Some (Slot slot)) attr h = absurd (cc)
set_is (Some (Set a e)) attr h = let same : a ≡ attr = cc in (e, ap (λ n. Some (Set n e)) same)
set_is (Some (Test e)) attr h = absurd (cc)
set_is (Some (Repeat first last item from to)) attr h = absurd (cc)
set_is (Some (Many item from to)) attr h = absurd (cc)
set_is (Some (Pick cases other)) attr h = absurd (cc)

sets_of : (terms : List CoreTerm) (v attr : ℕ) → set_by (slice_get terms v) ≡ Some attr → Sets terms v attr
sets_of terms v attr h = set_is (slice_get terms v) attr h

set_to : (a : ℕ) (sets : Option ℕ) → is_set_to a sets ≡ true → sets ≡ Some a
set_to a None e = absurd (cc)
set_to a (Some b) e = ap Some (same_of b a e)

needs_of : (terms : List CoreTerm) (v : ℕ) (m : Mention) → answers (Needs v (set_by (slice_get terms v))) m ≡ true → order.Needs terms v m
needs_of terms v (SeenOf t one) e = sym (same_of t v e)
needs_of terms v (ItemOf t) e = sym (same_of t v e)
needs_of terms v (AfterOf t) e = sym (same_of t v e)
needs_of terms v (OwnOf a) e = sets_of terms v a (set_to a (set_by (slice_get terms v)) e)
needs_of terms v (OuterOf a) e = absurd (cc)
needs_of terms v (FieldOf a) e = absurd (cc)
needs_of terms v LoopOf e = absurd (cc)

module _ (g : Grammar) (at : ℕ × ℕ) (terms : List CoreTerm) (v : ℕ) where
  names_it : (term : CoreTerm) → mentions_some (Needs v (set_by (slice_get terms v))) term ≡ true → Names terms term v
  unfolding mentions_some
  names_it term h =
      let f = some_passes (answers (Needs v (set_by (slice_get terms v)))) (term_mentions term) h in
      record { mention = f.one; stands = f.there; needs = needs_of terms v f.one f.passes }

  passes_by : (term : CoreTerm) (sets : Option ℕ) → set_by (slice_get terms v) ≡ sets → Found (calls g (Some at) (readers_of g sets)) (term_syms term)
      → Passes g at terms term v
  passes_by term None e f =
      let c = called g (Some at) [] f.one f.passes in absurd (true≢false (sym c.marked))
  passes_by term (Some attr) e f =
      let c = called g (Some at) (readers g attr (length g.rules)) f.one f.passes in
      record {
        callee = c.callee;
        attr = attr;
        calls = subst (Contains (term_syms term)) c.is_rule f.there;
        is_local = held_by at (holder_of (rule_at g c.callee)) c.is_local;
        reads = reads g attr (length g.rules) c.callee c.marked;
        sets = sets_of terms v attr e;
      }

  passes_it : (term : CoreTerm) → calls_some g (Some at) (readers_of g (set_by (slice_get terms v))) term ≡ true → Passes g at terms term v
  unfolding calls_some
  passes_it term h = passes_by term (set_by (slice_get terms v)) refl (some_passes _ (term_syms term) h)

  how_it : (term : CoreTerm)
      → (mentions_some (Needs v (set_by (slice_get terms v))) term ≡ true) ⊎ (calls_some g (Some at) (readers_of g (set_by (slice_get terms v))) term ≡ true)
      → Names terms term v ⊎ Passes g at terms term v
  how_it term (inl e) = inl (names_it term e)
  how_it term (inr e) = inr (passes_it term e)

  provider : (w : ℕ) (term : Option CoreTerm) → (v ≡ w → ⊥) → slice_get terms w ≡ term → provides g at v (set_by (slice_get terms v)) term ≡ true
      → Provides g at terms w v
  unfolding provides
  provider w None other e h = absurd (cc)
  provider w (Some term) other e h = record {
    other = other;
    term = term;
    is_term = e;
    how = how_it term (taken_or (mentions_some (Needs v (set_by (slice_get terms v))) term) _ h);
  }

-- ---- the terms that matter

module _ (g : Grammar) (at : ℕ × ℕ) (terms caller : List CoreTerm) (done : List ℕ)
    (closed : (w v : ℕ) → is_taken done w ≡ true → Provides g at terms w v → is_taken done v ≡ true)
    (wanted : (v attr : ℕ) (term : CoreTerm) → Sets terms v attr → Contains caller term → Contains (term_mentions term) (OuterOf attr)
    → is_taken done v ≡ true) where
  abbrev Taken : ℕ → Type 0
  Taken v = is_taken done v ≡ true

  wanted_by : (v : ℕ) (sets : Option ℕ) → set_by (slice_get terms v) ≡ sets → is_wanted caller sets ≡ true → Taken v
  wanted_by v None e h = absurd (cc)
  wanted_by v (Some attr) e h =
      let f = some_passes (mentions_some (Outer attr)) caller h in
      wanted v attr f.one (sets_of terms v attr e) f.there (mentions_outer attr f.one f.passes)

  not_same : (v w : ℕ) → nat_eq v w ≡ false → v ≡ w → ⊥
  not_same v w e same = grind (arith, nat_tests)

  provider_taken : (v w : ℕ) (b : Bool) → nat_eq v w ≡ b → Taken w → provides g at v (set_by (slice_get terms v)) (slice_get terms w) ≡ true → Taken v
  provider_taken v w true e t h = subst Taken (sym (same_of v w e)) t
  provider_taken v w false e t h = closed w v t (provider g at terms v w (slice_get terms w) (not_same v w e) refl h)

  abbrev provides_it : ℕ → ℕ → Bool
  provides_it v w = provides g at v (set_by (slice_get terms v)) (slice_get terms w)

  provided_by : (v w : ℕ) (behind : List ℕ) → Taken w → (list_any (provides_it v) behind ≡ true → Taken v)
      → (provides_it v w ≡ true) ⊎ (list_any (provides_it v) behind ≡ true) → Taken v
  provided_by v w behind t rest (inl e) = provider_taken v w (nat_eq v w) refl t e
  provided_by v w behind t rest (inr e) = rest e

  some_provided : (v : ℕ) (behind : List ℕ) → AllByRecursion Taken behind → list_any (provides_it v) behind ≡ true → Taken v
  some_provided v [] t h = absurd (cc)
  some_provided v (w ∷ behind) t h = provided_by v w behind t.0 (some_provided v behind t.1) (taken_or (provides_it v w) (list_any (provides_it v) behind) h)

  matters_by : (v : ℕ) (behind : List ℕ) → AllByRecursion Taken behind
      → (is_wanted caller (set_by (slice_get terms v)) ≡ true) ⊎ (list_any (provides_it v) behind ≡ true) → Taken v
  matters_by v behind t (inl e) = wanted_by v (set_by (slice_get terms v)) refl e
  matters_by v behind t (inr e) = some_provided v behind t e

  matters_taken : (v : ℕ) (behind : List ℕ) → AllByRecursion Taken behind → matters g at terms caller v behind ≡ true → Taken v
  unfolding matters
  matters_taken v behind t h = matters_by v behind t (taken_or (is_wanted caller (set_by (slice_get terms v))) (list_any (provides_it v) behind) h)

  with_taken : (v : ℕ) (behind : List ℕ) (b : Bool) → matters g at terms caller v behind ≡ b → AllByRecursion Taken behind
      → AllByRecursion Taken (with_term b v behind)
  with_taken v behind true e t = (matters_taken v behind t e, t)
  with_taken v behind false e t = t

  pub kept_taken : (these : List ℕ) → AllByRecursion Taken (kept g at terms caller these)
  unfolding kept
  kept_taken [] = tt
  kept_taken (v ∷ these) = with_taken v (kept g at terms caller these) _ refl (kept_taken these)
