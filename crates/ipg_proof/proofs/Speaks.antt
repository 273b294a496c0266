-- A certificate that proves a grammar is one that texts can say.
use Rattle.std.proofs.Common.{◌≡◌, ℕ, zero, suc, ◌+◌, ◌-◌, ◌≤◌, ◌<◌, ◌^◌, Bool, true, false, List, [], ◌∷◌, map, length, refl, sym, ap, subst, ◌∙◌, arith}
use Rattle.std.proofs.Common.{inl, inr, eqb, ◌||◌, ◌≢◌, Option, Some, None}
use Rattle.std.proofs.lemmas.List.{length-map}
use Rattle.std.specs.Prelude.{IsTrue, slice_get, slice_index_or, option_map, option_to_list}
use Rattle.std.specs.List.{AllByRecursion, IsDistinct, list_any}
use Rattle.std.proofs.lemmas.Bool.{ne_eqb, true≢false}
use Rattle.std.proofs.lemmas.Bool.Decides.{eqb_tells}
use Rattle.std.proofs.lemmas.List.Elements.{recursion_from_All}
use Rattle.std.proofs.lemmas.Map.Steps.{length-le_from_distinct_below}
use Rattle.ipg_core.specs.Grammar.{Grammar}
use Rattle.ipg_core.specs.MustTouch.{Marks, or_false}
use Rattle.ipg_graph.specs.declared.edge.Edge.{Edge}
use Rattle.ipg_graph.specs.Graph.{Graph, caller, IsLive, ends}
use Rattle.ipg_graph.specs.Cycle.{IsSimpleCycle, AreApart}
use Rattle.ipg_graph.specs.Answers.{Spot, Start, At, IsRun}
use Rattle.ipg_facts_edges.specs.Edges.{edges_of}
use Rattle.ipg_lin.specs.declared.formula.Formula.{Formula}
use Rattle.ipg_lin.specs.declared.formula.Boxed.{Boxed}
use Rattle.ipg_facts.specs.Keep.{keep}
use Rattle.ipg_cert.specs.declared.refutation.Refutation.{Refutation}
use Rattle.ipg_facts_laws.specs.Laws.{EdgesAreFew}
use Rattle.ipg_facts_laws.specs.Offers.{offers, ConditionsOffer, JointsOffer}
use Rattle.ipg_proof.specs.Calls.{CallGraph, calls_of, keep_of, keeps, joint_of, is_checked, edge_checks, cycle_checks, dead_edges, live_graph}
use Rattle.ipg_proof.specs.Places.{Rise}
use Rattle.ipg_proof.specs.Texts.{IsShort, IsTree, IsEdgeEntry, IsCycleEntry}
use Rattle.ipg_proof.specs.Speaks.{HaveWords, ProvesIsSpeakable}
use Rattle.ipg_proof.proofs.Lists.{all_front, all_back, all_weaker, all_join}
use Rattle.ipg_proof.proofs.Shapes.{checked_shape, tree_of}

-- ---- numbers none of which occurs twice

distinct : (xs : List ℕ) → AreApart xs → IsDistinct eqb xs
unfolding IsDistinct
distinct [] h = tt
distinct (x ∷ xs) h =
    (all_weaker (λ y. x ≢ y) (λ y. eqb x y ≡ false) (λ y ne. ne_eqb x y ne) xs (recursion_from_All (λ y. x ≢ y) xs h.0), distinct xs h.1)

below : (n q : ℕ) (xs : List ℕ) → AllByRecursion (λ x. x < n) xs → list_any (eqb q) xs ≡ true → q < n
below n q [] h e = absurd (true≢false (sym e))
below n q (x ∷ xs) h e = elim (eqb_tells q x) [
  | inl same ↦ subst (λ y. y < n) (sym same.1) h.0
  | inr other ↦ below n q xs h.1 (sym (ap (λ b. b || list_any (eqb q) xs) other.0) ∙ e)
]

-- there are no more than numbers below their bound
few : (n : ℕ) (xs : List ℕ) → AreApart xs → AllByRecursion (λ x. x < n) xs → length xs ≤ n
few n xs apart all = length-le_from_distinct_below xs n (distinct xs apart) (λ q e. below n q xs all e)

-- ---- dead edges

-- no more rise than there are edges
rise_few : (edges low : ℕ) (dead : List ℕ) → Rise edges low dead → length dead ≤ edges - low
rise_few edges low [] h = omega arith
rise_few edges low (e ∷ dead) h = let rest = rise_few edges (e + 1) dead h.1 in omega (arith, rest, h.0.0, h.0.1)

rise_short : (edges low : ℕ) (dead : List ℕ) → edges < 2 ^ 32 → Rise edges low dead → AllByRecursion IsShort dead
rise_short edges low [] few h = tt
rise_short edges low (e ∷ dead) few h = ((let s : e < 2 ^ 32 = omega (arith, few, h.0.1) in s), rise_short edges (e + 1) dead few h.1)

-- ---- the edges of a cycle

ends_length : (rules : ℕ) (end : Edge → ℕ) (edges : List Edge) (dead : List Bool) → length (ends rules end edges dead) ≡ length edges
ends_length rules end [] dead = refl
ends_length rules end (e ∷ edges) [] = ap suc (ends_length rules end edges [])
ends_length rules end (e ∷ edges) (d ∷ dead) = ap suc (ends_length rules end edges dead)

inside : (xs : List ℕ) (e rules : ℕ) → slice_index_or xs e rules < rules → e < length xs
inside [] e rules h = absurd (omega (arith, h))
inside (x ∷ xs) zero rules h = omega arith
inside (x ∷ xs) (suc e) rules h = let rest = inside xs e rules h in omega (arith, rest)

module _ (g : Grammar) (marks : Marks) (dead : List ℕ) (edges_few : length (edges_of g) < 2 ^ 32) (rules_few : length g.rules ≤ 1024) where
  abbrev graph : Graph
  graph = live_graph g dead

  short_edges : (cycle : List ℕ) → AllByRecursion (IsLive graph) cycle → AllByRecursion IsShort cycle
  short_edges [] live = tt
  short_edges (e ∷ cycle) live =
      let within = inside graph.callers e (length g.rules) live.0 in
      let size : length graph.callers ≡ length (edges_of g) = ends_length (length g.rules) (λ e. e.caller) (edges_of g) _ in
      ((let s : e < 2 ^ 32 = omega (arith, within, size, edges_few) in s), short_edges cycle live.1)

  callers_below : (cycle : List ℕ) → AllByRecursion (IsLive graph) cycle → AllByRecursion (λ x. x < length g.rules) (map (caller graph) cycle)
  callers_below [] live = tt
  callers_below (e ∷ cycle) live = (live.0, callers_below cycle live.1)

  some_edge : (cycle : List ℕ) → IsSimpleCycle graph cycle → 1 ≤ length cycle
  some_edge [] simple = absurd simple.walk
  some_edge (e ∷ cycle) simple = omega arith

  short_cycle : (cycle : List ℕ) → IsSimpleCycle graph cycle → IsShort (length cycle)
  short_cycle cycle simple =
      let size : length (map (caller graph) cycle) ≡ length cycle = length-map cycle (caller graph) in
      let bound = few (length g.rules) (map (caller graph) cycle) simple.once
      (callers_below cycle (recursion_from_All (IsLive graph) cycle simple.live)) in
      omega (arith, size, bound, rules_few)

  -- ---- entries

  module _ (conditions : ConditionsOffer) (joints : JointsOffer) where
    edge_shape : (edge : Option Edge) (r : Refutation) → IsTrue (or_false (option_map (is_checked r) (option_map (keep g marks) edge)))
        → HaveWords r → IsTree r
    edge_shape None r h words = absurd (true≢false (sym h))
    edge_shape (Some e) r h words = tree_of r words (checked_shape (keep g marks e).0 (keep g marks e).1 r (conditions g marks e) h)

    some_offers : (edge : Option Edge) → AllByRecursion (λ (part : Formula × Boxed). offers part.0 ≡ true) (option_to_list (option_map (keep g marks) edge))
    some_offers None = tt
    some_offers (Some e) = (conditions g marks e, tt)

    keeps_offer : (cycle : List ℕ) → AllByRecursion (λ (part : Formula × Boxed). offers part.0 ≡ true) (keeps (calls_of g marks) cycle)
    keeps_offer [] = tt
    keeps_offer (e ∷ cycle) =
        all_join (λ (part : Formula × Boxed). offers part.0 ≡ true) (option_to_list (keep_of (calls_of g marks) e)) (keeps (calls_of g marks) cycle)
        (some_offers (slice_get (edges_of g) e)) (keeps_offer cycle)

    cycle_shape : (cycle : List ℕ) (r : Refutation) → IsTrue (is_checked r (joint_of (calls_of g marks) cycle)) → HaveWords r → IsTree r
    cycle_shape cycle r h words =
        let part : Formula × Boxed = joint_of (calls_of g marks) cycle in
        tree_of r words (checked_shape part.0 part.1 r (joints (keeps (calls_of g marks) cycle) (keeps_offer cycle)) h)

    edge_entries : (entries : List (ℕ × Refutation)) → AllByRecursion IsTrue (map (edge_checks (calls_of g marks)) entries)
        → AllByRecursion (λ entry. HaveWords entry.1) entries → AllByRecursion IsShort (map (λ entry. entry.0) entries)
        → AllByRecursion IsEdgeEntry entries
    edge_entries [] checks words short = tt
    edge_entries (entry ∷ entries) checks words short =
        ((short.0, edge_shape (slice_get (edges_of g) entry.0) entry.1 checks.0 words.0), edge_entries entries checks.1 words.1 short.1)

    cycle_entries : (from : Spot) (entries : List (List ℕ × Refutation)) → AllByRecursion IsTrue (map (cycle_checks (calls_of g marks)) entries)
        → AllByRecursion (λ entry. HaveWords entry.1) entries → IsRun graph from (map (λ entry. entry.0) entries)
        → AllByRecursion IsCycleEntry entries
    cycle_entries from [] checks words run = tt
    cycle_entries from (entry ∷ entries) checks words run =
        let cycle : List ℕ = entry.0 in
        let simple = run.0.cycle in (
          (
            some_edge cycle simple,
            (short_cycle cycle simple, short_edges cycle (recursion_from_All (IsLive graph) cycle simple.live)),
            cycle_shape cycle entry.1 checks.0 words.0,
          ),
          cycle_entries (At cycle) entries checks.1 words.1 run.1,
        )

pub proves_is_speakable : EdgesAreFew → ConditionsOffer → JointsOffer → ProvesIsSpeakable
proves_is_speakable edges conditions joints g c good proves typed =
    let checked = proves.1 in
    let calls : CallGraph = calls_of g checked.marks in
    let few : length (edges_of g) < 2 ^ 32 = edges g good in
    let rules : length g.rules ≤ 1024 = good.well_formed.limit in
    let rise = proves.0.dead in
    let size : length (dead_edges c) ≡ length c.dead = length-map c.dead _ in
    let fewer = rise_few (length (edges_of g)) 0 (dead_edges c) rise in (
      (
        (let s : length c.dead < 2 ^ 32 = omega (arith, size, fewer, few) in s),
        edge_entries g checked.marks (dead_edges c) few rules conditions joints c.dead
            (all_front IsTrue (map (edge_checks calls) c.dead) _ checked.all) typed.dead (rise_short (length (edges_of g)) 0 (dead_edges c) few rise),
      ),
      (
        typed.few,
        cycle_entries g checked.marks (dead_edges c) few rules conditions joints Start c.cycles
            (all_back IsTrue (map (edge_checks calls) c.dead) _ checked.all) typed.cycles proves.0.cycles,
      ),
    )
