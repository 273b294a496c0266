-- The calls of a good grammar are from its rules to its rules.
use Rattle.std.proofs.Common.{◌≡◌, ℕ, suc, ◌+◌, ◌<◌, ◌≤◌, refl, subst, arith, List, [], ◌∷◌, ◌++◌, Some, length, length-append}
use Rattle.std.specs.Prelude.{slice_get, flat_map, sum_by}
use Rattle.std.specs.List.{AllByRecursion}
use Rattle.std.proofs.lemmas.List.Sums.{sum_by-cons}
use Rattle.std.proofs.lemmas.Option.{slice_get_within}
use Rattle.ipg_core.specs.declared.grammar.Sym.{Sym}
use Rattle.ipg_core.specs.declared.grammar.Sym.TheVariants.{Text, Prim, Rule}
use Rattle.ipg_core.specs.declared.grammar.CoreExpr.{CoreExpr}
use Rattle.ipg_core.specs.declared.grammar.CoreSlot.{CoreSlot}
use Rattle.ipg_core.specs.declared.grammar.CoreTerm.{CoreTerm}
use Rattle.ipg_core.specs.declared.grammar.CoreTerm.TheVariants.{Slot, Set, Test, Repeat, Many, Pick}
use Rattle.ipg_core.specs.Grammar.{Grammar}
use Rattle.ipg_core.specs.Mention.{EachSym, term_syms}
use Rattle.ipg_core.specs.Good.{Good, IsCallable, slots_in, slots_of}
use Rattle.ipg_graph.specs.Graph.{IsInside}
use Rattle.ipg_facts_edges.specs.Edges.{numbered, call, syms_edges, edges_of}
use Rattle.ipg_facts_laws.specs.Laws.{EdgesAreInside, EdgesAreFew}

all_append : {X : Type 0} (Q : X → Type 0) (xs ys : List X) → AllByRecursion Q xs → AllByRecursion Q ys → AllByRecursion Q (xs ++ ys)
all_append Q [] ys h k = k
all_append Q (x ∷ xs) ys h k = (h.0, all_append Q xs ys h.1 k)

numbered_all : {A B : Type 0} (Q : B → Type 0) (f : ℕ → A → List B) (n : ℕ) (xs : List A)
    → ((k : ℕ) (x : A) → slice_get xs k ≡ Some x → AllByRecursion Q (f (n + k) x)) → AllByRecursion Q (numbered n f xs)
numbered_all Q f n [] h = tt
numbered_all Q f n (x ∷ xs) h =
    let here : n + 0 ≡ n = omega arith in
    all_append Q (f n x) _ (subst (λ m. AllByRecursion Q (f m x)) here (h 0 x refl)) (numbered_all Q f (n + 1) xs (λ k y e.
    let there : n + suc k ≡ (n + 1) + k = omega arith in
    subst (λ m. AllByRecursion Q (f m y)) there (h (suc k) y e)))

all_numbered : {A B : Type 0} (Q : B → Type 0) (f : ℕ → A → List B) (xs : List A)
    → ((k : ℕ) (x : A) → slice_get xs k ≡ Some x → AllByRecursion Q (f k x)) → AllByRecursion Q (numbered 0 f xs)
all_numbered Q f xs h = numbered_all Q f 0 xs (λ k x e.
    let same : k ≡ 0 + k = omega arith in subst (λ m. AllByRecursion Q (f m x)) same (h k x e))

calls_of : (P : Sym → Type 0) (cases : List (CoreExpr × CoreSlot)) (other : Sym) → AllByRecursion (λ c. P c.1.sym) cases → P other
    → AllByRecursion P (flat_map (λ c. c.1.sym ∷ []) cases ++ other ∷ [])
calls_of P [] other h k = (k, tt)
calls_of P (c ∷ cases) other h k = (h.0, calls_of P cases other h.1 k)

syms_of : (P : Sym → Type 0) (term : CoreTerm) → EachSym P term → AllByRecursion P (term_syms term)
syms_of P (Slot slot) h = (h, tt)
syms_of P (Set attr e) h = tt
syms_of P (Test e) h = tt
syms_of P (Repeat first last item from to) h = (h, tt)
syms_of P (Many item from to) h = (h, tt)
syms_of P (Pick cases other) h = calls_of P cases other.sym h.0 h.1

module _ (g : Grammar) where
  call_inside : (at : ℕ × ℕ) (holder : _) (r a u b : ℕ) (one : Sym) → r < length g.rules → IsCallable g at holder one
      → AllByRecursion (IsInside (length g.rules)) (call r a u b one)
  call_inside at holder r a u b (Rule callee) lt h = ((lt, h.0), tt)
  call_inside at holder r a u b (Text token) lt h = tt
  call_inside at holder r a u b (Prim prim) lt h = tt

  syms_inside : (at : ℕ × ℕ) (holder : _) (r a u b : ℕ) (syms : List Sym) → r < length g.rules → AllByRecursion (IsCallable g at holder) syms
      → AllByRecursion (IsInside (length g.rules)) (numbered b (call r a u) syms)
  syms_inside at holder r a u b [] lt h = tt
  syms_inside at holder r a u b (one ∷ syms) lt h =
      all_append _ (call r a u b one) _ (call_inside at holder r a u b one lt h.0) (syms_inside at holder r a u (b + 1) syms lt h.1)

  inside : Good g → AllByRecursion (IsInside (length g.rules)) (edges_of g)
  inside good =
      all_numbered _ _ g.rules (λ r rule e.
      all_numbered _ _ rule.alts (λ a alt k.
      all_numbered _ _ alt.terms (λ u term m.
      syms_inside (r, a) rule.holder r a u 0 (term_syms term) (slice_get_within g.rules r rule e)
      (syms_of (IsCallable g (r, a) rule.holder) term ((good.well_formed.alts (r, a) rule alt (record { is_rule = e; is_alt = k })).terms u term m).syms))))

pub edges_are_inside : EdgesAreInside
edges_are_inside g good = inside g good

-- ---- how many there are

few_numbered : {A B : Type 0} (f : ℕ → A → List B) (w : A → ℕ) (n : ℕ) (xs : List A) → ((k : ℕ) (x : A) → length (f k x) ≤ w x)
    → length (numbered n f xs) ≤ sum_by w xs
few_numbered f w n [] h = omega arith
few_numbered f w n (x ∷ xs) h =
    let here = h n x in let there = few_numbered f w (n + 1) xs h in omega (arith, length-append (f n x) (numbered (n + 1) f xs), sum_by-cons w x xs)

call_few : (r a u b : ℕ) (one : Sym) → length (call r a u b one) ≤ 1
call_few r a u b (Rule callee) = omega arith
call_few r a u b (Text token) = omega arith
call_few r a u b (Prim prim) = omega arith

syms_few : (r a u b : ℕ) (syms : List Sym) → length (numbered b (call r a u) syms) ≤ length syms
syms_few r a u b [] = omega arith
syms_few r a u b (one ∷ syms) =
    let here = call_few r a u b one in let there = syms_few r a u (b + 1) syms in
    omega (arith, length-append (call r a u b one) (numbered (b + 1) (call r a u) syms))

cases_many : (cases : List (CoreExpr × CoreSlot)) (other : Sym) → length (flat_map (λ c. c.1.sym ∷ []) cases ++ other ∷ []) ≡ length cases + 1
cases_many [] other = refl
cases_many (c ∷ cases) other = let h = cases_many cases other in omega (arith, h)

syms_many : (term : CoreTerm) → length (term_syms term) ≡ slots_in term
syms_many (Slot slot) = refl
syms_many (Set attr e) = refl
syms_many (Test e) = refl
syms_many (Repeat first last item from to) = refl
syms_many (Many item from to) = refl
syms_many (Pick cases other) = cases_many cases other.sym

term_few : (r a u : ℕ) (term : CoreTerm) → length (syms_edges r a u (term_syms term)) ≤ slots_in term
term_few r a u term = let h = syms_few r a u 0 (term_syms term) in let k = syms_many term in omega (arith, h, k)

few : (g : Grammar) → length (edges_of g) ≤ slots_of g
few g = few_numbered _ _ 0 g.rules (λ r rule. few_numbered _ _ 0 rule.alts (λ a alt. few_numbered _ _ 0 alt.terms (λ u term. term_few r a u term)))

pub edges_are_few : EdgesAreFew
edges_are_few g good = let h = few g in let k = good.well_formed.few_slots in omega (arith, h, k)
