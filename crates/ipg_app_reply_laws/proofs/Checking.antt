-- A good grammar is accepted, or has a first cycle of calls that can be walked, and a least length at which it can.
use Rattle.std.proofs.Common.{◌≡◌, ℕ, zero, suc, ◌<◌, refl, sym, ap, ◌∙◌, subst, arith, pos, Bool, List, [], ◌∷◌, ◌++◌, length, map, Option, Some}
use Rattle.std.proofs.Common.{None, Ok, Err}
use Rattle.std.specs.Prelude.{slice_get, slice_index_or, option_map, option_to_list, replicate, false}
use Rattle.std.specs.List.{flat_map}
use Rattle.std.proofs.lemmas.List.Elements.{recursion_from_All}
use Rattle.std.proofs.lemmas.Option.{slice_get_cases}
use Rattle.ipg_core.specs.Grammar.{Grammar}
use Rattle.ipg_core.specs.MustTouch.{Marks, AreLimit}
use Rattle.ipg_graph.specs.declared.edge.Edge.{Edge}
use Rattle.ipg_graph.specs.Graph.{Graph, IsLive, ends}
use Rattle.ipg_graph.specs.Cycle.{IsSimpleCycle}
use Rattle.ipg_lin.specs.Formula.{assigned}
use Rattle.ipg_lin.specs.declared.formula.Formula.{Formula}
use Rattle.ipg_lin.specs.declared.formula.Boxed.{Boxed}
use Rattle.ipg_facts_edges.specs.Edges.{edges_of}
use Rattle.ipg_facts.specs.Keep.{keep}
use Rattle.ipg_facts_forms.specs.Joint.{joint}
use Rattle.ipg_facts_laws.specs.Bounded.{JointIsPart}
use Rattle.ipg_facts_laws.specs.Laws.{ArePartsWith, ConditionsAreParts}
use Rattle.ipg_proof.specs.Calls.{calls_of, joint_of, keeps, live_graph}
use Rattle.ipg_term.specs.Loops.{CanLoop}
use Rattle.ipg_app_grammar.specs.Checks.{Checks, IsLoop, may_loop}
use Rattle.ipg_app_text.specs.CoreOf.{Answer}
use Rattle.ipg_app_reply_laws.proofs.Classical.{Somehow, some, ◌>>=◌, by, middle}
use Rattle.ipg_app_reply_laws.proofs.Cycles.{FirstList, first_list, cycles_short}
use Rattle.ipg_app_reply_laws.proofs.Limits.{limits}
use Rattle.ipg_app_reply_laws.proofs.Solutions.{LeastSolution, least_solution}

-- ---- the edges of a cycle

there : (xs : List ℕ) (e n : ℕ) → slice_index_or xs e n < n → e < length xs
there [] e n h = absurd (omega (arith, h))
there (x ∷ xs) zero n h = omega arith
there (x ∷ xs) (suc e) n h = let rest = there xs e n h in omega (arith, rest)

ends_length : (rules : ℕ) (end : Edge → ℕ) (edges : List Edge) (dead : List Bool) → length (ends rules end edges dead) ≡ length edges
ends_length rules end [] dead = refl
ends_length rules end (e ∷ edges) [] = ap suc (ends_length rules end edges [])
ends_length rules end (e ∷ edges) (d ∷ dead) = ap suc (ends_length rules end edges dead)

module _ (g : Grammar) (marks : Marks) where
  abbrev graph : Graph
  graph = live_graph g []

  abbrev found : List ℕ → List Edge
  found cycle = flat_map (λ e. option_to_list (slice_get (edges_of g) e)) cycle

  one_more : (o : Option Edge) (edges : List Edge) (parts : List (Formula × Boxed)) → parts ≡ map (keep g marks) edges
      → option_to_list (option_map (keep g marks) o) ++ parts ≡ map (keep g marks) (option_to_list o ++ edges)
  one_more None edges parts e = e
  one_more (Some x) edges parts e = ap (λ ps. keep g marks x ∷ ps) e

  keeps_are : (cycle : List ℕ) → keeps (calls_of g marks) cycle ≡ map (keep g marks) (found cycle)
  keeps_are [] = refl
  keeps_are (e ∷ cycle) = one_more (slice_get (edges_of g) e) (found cycle) (keeps (calls_of g marks) cycle) (keeps_are cycle)

  edge_there : (e : ℕ) → IsLive graph e → (x : Edge) × (slice_get (edges_of g) e ≡ Some x)
  edge_there e live =
      let lt = there graph.callers e graph.rules live in
      let size = ends_length graph.rules (λ x. x.caller) (edges_of g) (replicate (length (edges_of g)) false) in
      by (slice_get_cases (edges_of g) e).1 (λ c. (c.0, c.2)) (λ past. absurd (let few = past.0 in omega (arith, lt, size, few)))

  module _ (are_parts : ConditionsAreParts) (is_part : JointIsPart) where
    abbrev Bounds : List (Formula × Boxed) → Type 0
    Bounds parts = ArePartsWith (pos 0, pos 1073741824) (joint parts ∷ [])

    joint_bounds : (edges : List Edge) (x : Edge) → Bounds (map (keep g marks) (x ∷ edges))
    joint_bounds edges x = is_part (pos 0, pos 1073741824) (keep g marks x) (map (keep g marks) edges) (are_parts g marks (x ∷ edges))

    cycle_bounds : (cycle : List ℕ) → IsSimpleCycle graph cycle → Bounds (keeps (calls_of g marks) cycle)
    cycle_bounds [] simple = absurd simple.walk
    cycle_bounds (e ∷ cycle) simple =
        let x = edge_there e (recursion_from_All (IsLive graph) (e ∷ cycle) simple.live).0 in
        let is : found (e ∷ cycle) ≡ x.0 ∷ found cycle = ap (λ (o : Option Edge). option_to_list o ++ found cycle) x.1 in
        subst Bounds (sym (keeps_are (e ∷ cycle) ∙ ap (map (keep g marks)) is)) (joint_bounds (found cycle) x.0)

    -- a simple cycle that can be walked
    abbrev CanBeWalked : List ℕ → Type 0
    CanBeWalked cycle = IsSimpleCycle graph cycle × CanLoop (calls_of g marks) cycle

    loop : AreLimit g marks → (f : FirstList CanBeWalked)
        → (s : LeastSolution (joint_of (calls_of g marks) f.list).0 (joint_of (calls_of g marks) f.list).1)
        → IsLoop g (may_loop g f.list (assigned s.values 0))
    loop limit f s = record {
      cycle = f.list;
      values = s.values;
      loops = record {
        marks = marks;
        limit = limit;
        first = record {
          simple = f.holds.0;
          least = record { solves = (s.length_is, s.inside, s.holds); least = s.least };
          first = λ other simple before can. f.before other (simple, can) before;
        };
      };
      is = refl;
    }

    first_loop : AreLimit g marks → (cycle : List ℕ) → CanBeWalked cycle → Somehow ((answer : Answer) × Checks g answer)
    first_loop limit cycle walked = do
      f ← first_list graph.rules CanBeWalked (λ c h. cycles_short graph c h.0) cycle walked
      let bounds = cycle_bounds f.list f.holds.0
      s ← least_solution (joint_of (calls_of g marks) f.list).0 (joint_of (calls_of g marks) f.list).1 (pos 1073741824) bounds.0.0.bounded bounds.0.1 f.holds.1
      some (Err (may_loop g f.list (assigned s.values 0)), loop limit f s)

    check_by : AreLimit g marks → Somehow ((answer : Answer) × Checks g answer)
    check_by limit = do
      walked ← middle ((cycle : List ℕ) × CanBeWalked cycle)
      by walked (λ one. first_loop limit one.0 one.1)
          (λ none. some (Ok g, (refl, record { marks = marks; limit = limit; never = λ cycle simple can. none (cycle, (simple, can)) })))

pub checked : ConditionsAreParts → JointIsPart → (g : Grammar) → Somehow ((answer : Answer) × Checks g answer)
checked are_parts is_part g = do
  marks ← limits g
  check_by g marks.0 are_parts is_part marks.1
