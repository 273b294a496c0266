-- A grammar is accepted with a certificate, or has a first cycle that can loop.
use Rattle.std.proofs.Common.{◌≡◌, ℕ, zero, suc, ◌<◌, ℤ, List, [], ◌∷◌, ◌++◌, map, length, Bool, refl, sym, ap, subst, inl, inr, arith, append-nil}
use Rattle.std.proofs.Common.{Option, Some, None, Result, Ok, Err}
use Rattle.std.specs.Prelude.{IsTrue, MatchResult, slice_index_or, slice_get, option_map, option_to_list}
use Rattle.std.specs.List.{AllByRecursion}
use Rattle.std.proofs.lemmas.Int.{ints}
use Rattle.std.proofs.lemmas.List.Elements.{All-head}
use Rattle.ipg_core.specs.Grammar.{Grammar}
use Rattle.ipg_core.specs.MustTouch.{Marks, AreLimit}
use Rattle.ipg_graph.specs.declared.edge.Edge.{Edge}
use Rattle.ipg_graph.specs.Graph.{Graph, ends, IsLive}
use Rattle.ipg_graph.specs.Cycle.{IsSimpleCycle}
use Rattle.ipg_graph.specs.Answers.{Start, End, IsRun}
use Rattle.ipg_facts_edges.specs.Edges.{edges_of}
use Rattle.ipg_lin.specs.Formula.{assigned}
use Rattle.ipg_cert.specs.declared.refutation.Refutation.{Refutation}
use Rattle.ipg_proof.specs.Calls.{CallGraph, calls_of, joint_of, keep_of, keeps, edge_checks, cycle_checks, live_graph}
use Rattle.ipg_proof.specs.Cycles.{LiveCyclesAreCycles, LoopsAreLive}
use Rattle.ipg_proof.specs.Proves.{Accepts, Proves}
use Rattle.ipg_touch.specs.Laws.{OneLimit}
use Rattle.ipg_solve_values.specs.Least.{IsLeast}
use Rattle.ipg_term.specs.Loops.{CanLoop, Loops, IsReason}
use Rattle.ipg_term.specs.Laws.{LoopsArentAccepted, OneLoops}
use Rattle.ipg_term.specs.Refuted.{EdgesCheck, AreDead, AreRefuted, IsReasonIn}
use Rattle.ipg_term.specs.declared.fault.TermWhy.{TermWhy}
use Rattle.ipg_term.specs.declared.fault.TermWhy.TheVariants.{MayLoop, Memory}
use Rattle.ipg_term.proofs.Ordered.{is_total}

all_of_map : {A : Type 0} (f : A → Bool) (xs : List A) (bs : List Bool) → AllByRecursion (λ x. IsTrue (f x)) xs → AllByRecursion IsTrue bs
    → AllByRecursion IsTrue (map f xs ++ bs)
all_of_map f [] bs h k = k
all_of_map f (x ∷ xs) bs h k = (h.0, all_of_map f xs bs h.1 k)

-- marks, edges and dead edges, and other names for them
module _ (g : Grammar) (marks m : Marks) (edges : List Edge) (dead listed : List (ℕ × Refutation)) (limit : AreLimit g marks)
    (m_is : m ≡ marks) (edges_are : edges ≡ edges_of g) (listed_is : listed ≡ dead)
    (dead_are : AreDead (record { grammar = g; marks = m; edges = edges }) (length edges) dead) where
  abbrev live : List (ℕ × Refutation) → Graph
  live entries = live_graph g (map (λ entry. entry.0) entries)

  named : (P : List (ℕ × Refutation) → Marks → List Edge → Type 0) → P listed m edges → P dead marks (edges_of g)
  named P h = subst (λ l. P l marks (edges_of g)) listed_is (subst (P listed marks) edges_are (subst (λ k. P listed k edges) m_is h))

  are : AreDead (calls_of g marks) (length (edges_of g)) dead
  are = named (λ _ k es. AreDead (record { grammar = g; marks = k; edges = es }) (length es) dead) dead_are

  module _ (cycles : List (List ℕ × Refutation)) (cycles_are : AreRefuted (live listed) (record { grammar = g; marks = m; edges = edges }) End cycles) where
    refuted : AreRefuted (live dead) (calls_of g marks) End cycles
    refuted = named (λ l k es. AreRefuted (live l) (record { grammar = g; marks = k; edges = es }) End cycles) cycles_are

    pub accepts : LoopsAreLive → Accepts g
    accepts loops = record {
      marks = marks;
      limit = limit;
      never = λ cycle simple can. refuted.later cycle (loops g marks dead cycle are.check simple can) can;
    }

    pub proves : Proves g (record { dead = dead; cycles = cycles })
    proves = (
      record {
        dead = are.rise;
        cycles = subst (IsRun (live dead) Start) (append-nil _) (refuted.run [] (record { none = λ other simple after. after }));
      },
      record {
        marks = marks;
        limit = limit;
        all = all_of_map (edge_checks (calls_of g marks)) dead (map (cycle_checks (calls_of g marks)) cycles) are.check
            (subst (AllByRecursion IsTrue) (append-nil _) (all_of_map (cycle_checks (calls_of g marks)) cycles [] refuted.check tt));
      },
    )

  reason_by : LiveCyclesAreCycles → LoopsAreLive → (why : TermWhy) → IsReasonIn (live dead) (calls_of g marks) why → IsReason g why
  reason_by whole loops Memory reason = tt
  reason_by whole loops (MayLoop cycle values) reason = record {
    marks = marks;
    limit = limit;
    first = record {
      simple = whole g (map (λ entry. entry.0) dead) cycle reason.simple;
      least = reason.least;
      first = λ other simple before can. reason.first other (loops g marks dead other are.check simple can) before can;
    };
  }

  pub is_reason : LiveCyclesAreCycles → LoopsAreLive → (why : TermWhy)
      → IsReasonIn (live listed) (record { grammar = g; marks = m; edges = edges }) why → IsReason g why
  is_reason whole loops why reason =
      reason_by whole loops why (named (λ l k es. IsReasonIn (live l) (record { grammar = g; marks = k; edges = es }) why) reason)

-- the first loop of the edges that aren't dead is the first of all
pub reason_in_all : LiveCyclesAreCycles → LoopsAreLive → (calls : CallGraph) (edges : ℕ) (dead : List (ℕ × Refutation)) → calls.edges ≡ edges_of calls.grammar
    → AreDead calls edges dead → (why : TermWhy) → IsReasonIn (live_graph calls.grammar (map (λ entry. entry.0) dead)) calls why
    → IsReasonIn (live_graph calls.grammar []) calls why
reason_in_all whole loops calls edges dead same ok Memory reason = tt
reason_in_all whole loops calls edges dead same ok (MayLoop cycle values) reason =
    let g = calls.grammar in
    let named : calls ≡ calls_of g calls.marks = ap (λ (es : List Edge). record { grammar = g; marks = calls.marks; edges = es }) same in
    record {
      simple = whole g (map (λ entry. entry.0) dead) cycle reason.simple;
      least = reason.least;
      first = λ other simple before can.
          reason.first other (loops g calls.marks dead other (subst (λ c. EdgesCheck c dead) named ok.check) simple (subst (λ c. CanLoop c other) named can))
          before can;
    }

pub reasons_in_all : {A : Type 0} (P : A → Type 0) → LiveCyclesAreCycles → LoopsAreLive → (calls : CallGraph) (edges : ℕ) (dead : List (ℕ × Refutation))
    → calls.edges ≡ edges_of calls.grammar → AreDead calls edges dead → (r : Result A TermWhy)
    → MatchResult r P (IsReasonIn (live_graph calls.grammar (map (λ entry. entry.0) dead)) calls)
    → MatchResult r P (IsReasonIn (live_graph calls.grammar []) calls)
reasons_in_all P whole loops calls edges dead same ok (Ok a) h = h
reasons_in_all P whole loops calls edges dead same ok (Err why) h = reason_in_all whole loops calls edges dead same ok why h

-- ---- the edges of a cycle have conditions

live_below : (rules : ℕ) (end : Edge → ℕ) (edges : List Edge) (dead : List Bool) (e : ℕ) → slice_index_or (ends rules end edges dead) e rules < rules
    → (edge : Edge) × (slice_get edges e ≡ Some edge)
live_below rules end [] dead e h = absurd (omega (arith, h))
live_below rules end (x ∷ edges) [] zero h = (x, refl)
live_below rules end (x ∷ edges) (d ∷ dead) zero h = (x, refl)
live_below rules end (x ∷ edges) [] (suc e) h = live_below rules end edges [] e h
live_below rules end (x ∷ edges) (d ∷ dead) (suc e) h = live_below rules end edges dead e h

some_kept : {A : Type 0} (found : Option A) (rest : List A) (a : A) → found ≡ Some a → 0 < length (option_to_list found ++ rest)
some_kept None rest a e = absurd (cc)
some_kept (Some b) rest a e = omega arith

pub cycles_have_conditions : (g : Grammar) (marks : Marks) (dead cycle : List ℕ) → IsSimpleCycle (live_graph g dead) cycle
    → 0 < length (keeps (calls_of g marks) cycle)
cycles_have_conditions g marks dead [] simple = absurd simple.walk
cycles_have_conditions g marks dead (e ∷ cycle) simple =
    let calls = calls_of g marks in
    let live = All-head (IsLive (live_graph g dead)) e cycle simple.live in
    let edge = live_below (length g.rules) (λ e. e.caller) (edges_of g) _ e live in
    some_kept (keep_of calls e) (keeps calls cycle) _ (ap (option_map _) edge.1)

-- ---- laws

can_loop : (g : Grammar) (cycle : List ℕ) (values : List ℤ) (loops : Loops g cycle values) → CanLoop (calls_of g loops.marks) cycle
can_loop g cycle values loops =
    let solves = loops.first.least.solves in (assigned values, solves.1, solves.2)

pub loops_arent_accepted : OneLimit → LoopsArentAccepted
loops_arent_accepted one_limit g cycle values loops accepts =
    accepts.never cycle loops.first.simple
    (subst (λ marks. CanLoop (calls_of g marks) cycle) (one_limit g loops.marks accepts.marks loops.limit accepts.limit) (can_loop g cycle values loops))

least_below : (g : Grammar) (cycle : List ℕ) (values others : List ℤ) (marks : Marks)
    → IsLeast (joint_of (calls_of g marks) cycle).0 (joint_of (calls_of g marks) cycle).1 0 values
    → IsLeast (joint_of (calls_of g marks) cycle).0 (joint_of (calls_of g marks) cycle).1 0 others → assigned values 0 ≡ assigned others 0
least_below g cycle values others marks h k =
    let up = h.least (assigned others) k.solves.1 k.solves.2 in
    let down = k.least (assigned values) h.solves.1 h.solves.2 in
    omega (arith, ints, up, down)

pub one_loops : OneLimit → OneLoops
one_loops one_limit g cycle other values others h k =
    let same = one_limit g h.marks k.marks h.limit k.limit in
    elim (is_total cycle other) [
      | inl one ↦ (
        one,
        least_below g other values others k.marks
            (subst (λ c. IsLeast (joint_of (calls_of g k.marks) c).0 (joint_of (calls_of g k.marks) c).1 0 values) one
            (subst (λ m. IsLeast (joint_of (calls_of g m) cycle).0 (joint_of (calls_of g m) cycle).1 0 values) same h.first.least))
            k.first.least,
      )
      | inr (inl before) ↦ absurd (k.first.first cycle h.first.simple before (subst (λ m. CanLoop (calls_of g m) cycle) same (can_loop g cycle values h)))
      | inr (inr behind) ↦ absurd (h.first.first other k.first.simple behind (subst (λ m. CanLoop (calls_of g m) other) (sym same) (can_loop g other others k)))
    ]
