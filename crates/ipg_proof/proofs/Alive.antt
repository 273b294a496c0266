-- The cycles of the edges that aren't dead, among those of all edges.
use Rattle.std.proofs.Common.{◌≡◌, ℕ, zero, suc, ◌<◌, ◌⊎◌, List, [], ◌∷◌, ◌++◌, map, length, replicate, Bool, true, false, refl, sym, ap, subst, ◌∙◌}
use Rattle.std.proofs.Common.{inl, inr, arith, ℤ, Option, Some, None, if◌then◌else◌}
use Rattle.std.specs.Prelude.{IsTrue, slice_index_or, slice_set, Contains, option_map, option_to_list}
use Rattle.std.specs.List.{AllByRecursion}
use Rattle.std.proofs.lemmas.Bool.{cases_eq, true≢false}
use Rattle.std.proofs.lemmas.List.{get_or-set_other}
use Rattle.std.proofs.lemmas.List.Elements.{recursion_from_All, Contains-append_right}
use Rattle.ipg_core.specs.Grammar.{Grammar}
use Rattle.ipg_core.specs.MustTouch.{Marks, or_false}
use Rattle.ipg_graph.specs.declared.edge.Edge.{Edge}
use Rattle.ipg_graph.specs.Graph.{IsLive, ends}
use Rattle.ipg_facts_edges.specs.Edges.{edges_of}
use Rattle.ipg_lin.specs.declared.formula.Formula.{Formula}
use Rattle.ipg_lin.specs.declared.formula.Boxed.{Boxed}
use Rattle.ipg_lin.specs.Formula.{Solvable}
use Rattle.ipg_cert.specs.declared.refutation.Refutation.{Refutation}
use Rattle.ipg_cert.specs.Laws.{ChecksRefute}
use Rattle.ipg_facts_laws.specs.Laws.{AllSolved, ConditionsAreParts, JointSolvesParts}
use Rattle.ipg_proof.specs.Calls.{CallGraph, calls_of, keep_of, keeps, joint_of, is_checked, edge_checks, live_graph, with_set}
use Rattle.ipg_proof.specs.Cycles.{LiveCyclesAreCycles, LoopsAreLive}
use Rattle.ipg_proof.proofs.Lists.{all_weaker}
use Rattle.ipg_proof.proofs.Graphs.{SameEnds, still_simple}
use Rattle.ipg_proof.proofs.Parts.{some_same, none_some, conditions_of_cycle}

-- ---- places that are set, and entries

pub none_set : (n k : ℕ) → slice_index_or (replicate n false) k false ≡ true → ⊥
none_set zero k e = true≢false (sym e)
none_set (suc n) zero e = true≢false (sym e)
none_set (suc n) (suc k) e = none_set n k e

-- what is set was set, or is one of these places
pub was_set : (flags : List Bool) (places : List ℕ) (k : ℕ)
    → slice_index_or (with_set flags places) k false ≡ true → (slice_index_or flags k false ≡ true) ⊎ Contains places k
was_set flags [] k e = inl e
was_set flags (p ∷ places) k e = elim (was_set (slice_set flags p true) places k e) [
  | inl before ↦ elim (cases_eq k p) [
    | inl same ↦ inr (0, omega arith, sym same)
    | inr other ↦ inl (sym (get_or-set_other flags p k true false other) ∙ before)
  ]
  | inr among ↦ inr (Contains-append_right (p ∷ []) places k among)
]

-- an entry of these, with what is so of each
pub entry : {A B : Type 0} (P : A → Type 0) (f : A → B) (xs : List A) (y : B) → AllByRecursion P xs → Contains (map f xs) y → (x : A) × (f x ≡ y) × P x
entry P f [] y all (k, lt, e) = absurd (omega (arith, lt))
entry P f (x ∷ xs) y all (zero, lt, e) = (x, e, all.0)
entry P f (x ∷ xs) y all (suc k, lt, e) = entry P f xs y all.1 (k, omega (arith, lt), e)

-- ---- ends of edges that are dead or not

module _ (rules : ℕ) (end : Edge → ℕ) where
  ends_live : (edges : List Edge) (dead : List Bool) (e : ℕ) → slice_index_or dead e false ≡ false
      → slice_index_or (ends rules end edges dead) e rules ≡ slice_index_or (ends rules end edges []) e rules
  ends_live [] dead e h = refl
  ends_live (x ∷ edges) [] e h = refl
  ends_live (x ∷ edges) (d ∷ dead) zero h = ap (λ b. if b then rules else end x) h
  ends_live (x ∷ edges) (d ∷ dead) (suc e) h = ends_live edges dead e h

  ends_dead : (edges : List Edge) (dead : List Bool) (e : ℕ) → slice_index_or dead e false ≡ true → slice_index_or (ends rules end edges dead) e rules ≡ rules
  ends_dead [] dead e h = refl
  ends_dead (x ∷ edges) [] e h = absurd (true≢false (sym h))
  ends_dead (x ∷ edges) (d ∷ dead) zero h = ap (λ b. if b then rules else end x) h
  ends_dead (x ∷ edges) (d ∷ dead) (suc e) h = ends_dead edges dead e h

true_or_false : (b : Bool) → (b ≡ true) ⊎ (b ≡ false)
true_or_false true = inl refl
true_or_false false = inr refl

abbrev flags_of : Grammar → List ℕ → List Bool
flags_of g dead = with_set (replicate (length (edges_of g)) false) dead

none_dead : (g : Grammar) (e : ℕ) → slice_index_or (flags_of g []) e false ≡ false
none_dead g e = elim (true_or_false (slice_index_or (flags_of g []) e false)) [
  | inl is ↦ absurd (none_set (length (edges_of g)) e is)
  | inr is ↦ is
]

same_ends : (g : Grammar) (dead : List ℕ) (e : ℕ) → slice_index_or (flags_of g dead) e false ≡ false → SameEnds (live_graph g dead) (live_graph g []) e
same_ends g dead e h =
    let n : ℕ = length g.rules in
    let edges : List Edge = edges_of g in (
      ends_live n (λ e. e.caller) edges (flags_of g dead) e h ∙ sym (ends_live n (λ e. e.caller) edges (flags_of g []) e (none_dead g e)),
      ends_live n (λ e. e.callee) edges (flags_of g dead) e h ∙ sym (ends_live n (λ e. e.callee) edges (flags_of g []) e (none_dead g e)),
    )

not_below_itself : (m n : ℕ) → m ≡ n → m < n → ⊥
not_below_itself m n e h = omega arith

live_is_same : (g : Grammar) (dead : List ℕ) (e : ℕ) → IsLive (live_graph g dead) e → SameEnds (live_graph g dead) (live_graph g []) e
live_is_same g dead e live = elim (true_or_false (slice_index_or (flags_of g dead) e false)) [
  | inl is ↦ absurd (not_below_itself _ _ (ends_dead (length g.rules) (λ e. e.caller) (edges_of g) (flags_of g dead) e is) live)
  | inr is ↦ same_ends g dead e is
]

pub live_cycles_are_cycles : LiveCyclesAreCycles
live_cycles_are_cycles g dead cycle simple =
    let live = recursion_from_All (IsLive (live_graph g dead)) cycle simple.live in
    still_simple (live_graph g dead) (live_graph g []) refl cycle
    (all_weaker (IsLive (live_graph g dead)) (SameEnds (live_graph g dead) (live_graph g [])) (live_is_same g dead) cycle live)
    simple

-- ---- a cycle whose conditions can hold together holds no dead edge

solved_first : (eoi : ℤ) (found : Option (Formula × Boxed)) (parts : List (Formula × Boxed)) → AllSolved eoi (option_to_list found ++ parts)
    → ((part : Formula × Boxed) → found ≡ Some part → Solvable part.0 part.1) × AllSolved eoi parts
solved_first eoi None parts h = (λ part e. absurd (none_some part e), h)
solved_first eoi (Some p) parts h =
    (λ part e. subst (λ (q : Formula × Boxed). Solvable q.0 q.1) (some_same p part e) (h.0.1.0, h.0.1.1.0, h.0.1.1.1), h.1)

solved_one : (calls : CallGraph) (eoi : ℤ) (cycle : List ℕ) (e : ℕ) (part : Formula × Boxed) → AllSolved eoi (keeps calls cycle) → Contains cycle e
    → keep_of calls e ≡ Some part → Solvable part.0 part.1
solved_one calls eoi [] e part h (k, lt, at) is = absurd (omega (arith, lt))
solved_one calls eoi (x ∷ cycle) e part h (zero, lt, at) is =
    (solved_first eoi (keep_of calls x) (keeps calls cycle) h).0 part (ap (keep_of calls) at ∙ is)
solved_one calls eoi (x ∷ cycle) e part h (suc k, lt, at) is =
    solved_one calls eoi cycle e part (solved_first eoi (keep_of calls x) (keeps calls cycle) h).1 (k, omega (arith, lt), at) is

checked_part : (found : Option (Formula × Boxed)) (r : Refutation) → or_false (option_map (is_checked r) found) ≡ true
    → (part : Formula × Boxed) × (found ≡ Some part) × (is_checked r part ≡ true)
checked_part None r h = absurd (true≢false (sym h))
checked_part (Some part) r h = (part, refl, h)

each_of : (P : ℕ → Type 0) (xs : List ℕ) → ((x : ℕ) → Contains xs x → P x) → AllByRecursion P xs
each_of P [] f = tt
each_of P (x ∷ xs) f = (f x (0, omega arith, refl), each_of P xs (λ y h. f y (Contains-append_right (x ∷ []) xs y h)))

module _ (refute : ChecksRefute) (parts_are : ConditionsAreParts) (solves_parts : JointSolvesParts) where
  holds_none : (g : Grammar) (marks : Marks) (dead : List (ℕ × Refutation)) (cycle : List ℕ)
      → AllByRecursion (λ entry. IsTrue (edge_checks (calls_of g marks) entry)) dead
      → Solvable (joint_of (calls_of g marks) cycle).0 (joint_of (calls_of g marks) cycle).1
      → (e : ℕ) → Contains cycle e → Contains (map (λ entry. entry.0) dead) e → ⊥
  holds_none g marks dead cycle check solvable e among is_dead =
      let calls = calls_of g marks in
      let found = entry (λ entry. IsTrue (edge_checks calls entry)) (λ (entry : ℕ × Refutation). entry.0) dead e check is_dead in
      let part = checked_part (keep_of calls found.0.0) found.0.1 found.2 in
      let solved = solves_parts (keeps calls cycle) _ (conditions_of_cycle parts_are calls cycle) solvable.0 (solvable.1, solvable.2) in
      refute part.0.0 part.0.1 found.0.1 part.2
      (solved_one calls (solvable.0 0) cycle e part.0 solved among (ap (keep_of calls) (sym found.1) ∙ part.1))

  pub loops_are_live : LoopsAreLive
  loops_are_live g marks dead cycle check simple solvable =
      let numbers : List ℕ = map (λ entry. entry.0) dead in
      let live : (e : ℕ) → Contains cycle e → SameEnds (live_graph g []) (live_graph g numbers) e =
      λ e among. elim (true_or_false (slice_index_or (flags_of g numbers) e false)) [
        | inl is ↦ elim (was_set (replicate (length (edges_of g)) false) numbers e is) [
          | inl before ↦ absurd (none_set (length (edges_of g)) e before)
          | inr is_dead ↦ absurd (holds_none g marks dead cycle check solvable e among is_dead)
        ]
        | inr is ↦ let same = same_ends g numbers e is in (sym same.0, sym same.1)
      ] in
      still_simple (live_graph g []) (live_graph g numbers) refl cycle (each_of (SameEnds (live_graph g []) (live_graph g numbers)) cycle live) simple
