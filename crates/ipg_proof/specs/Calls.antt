-- What the entries of a certificate are checked against: the conditions of edges, alone and along a cycle.
use Rattle.std.specs.Prelude.{ℕ, List, [], ◌∷◌, ◌++◌, map, length, replicate, Bool, true, false, Option, slice_get, slice_set, option_map, option_to_list}
use Rattle.std.specs.List.{flat_map}
use Rattle.ipg_core.specs.Grammar.{Grammar}
use Rattle.ipg_core.specs.MustTouch.{Marks, or_false}
use Rattle.ipg_graph.specs.declared.edge.Edge.{Edge}
use Rattle.ipg_graph.specs.Graph.{Graph, graph_of}
use Rattle.ipg_facts_edges.specs.Edges.{edges_of}
use Rattle.ipg_lin.specs.declared.formula.Formula.{Formula}
use Rattle.ipg_lin.specs.declared.formula.Boxed.{Boxed}
use Rattle.ipg_facts.specs.Keep.{keep}
use Rattle.ipg_facts_forms.specs.Joint.{joint}
use Rattle.ipg_cert.specs.declared.refutation.Refutation.{Refutation}
use Rattle.ipg_cert.specs.Checks.{checks}
use Rattle.ipg_proof.specs.declared.certificate.Certificate.{Certificate}

-- a grammar, which of its rules must touch a byte, and its edges by number
pub record CallGraph : Type 0 where
  pub grammar : Grammar
  pub marks : Marks
  pub edges : List Edge

abbrev pub calls_of : Grammar → Marks → CallGraph
calls_of g marks = record { grammar = g; marks = marks; edges = edges_of g }

-- the conditions of the edge of a number, where there is one
abbrev pub keep_of : CallGraph → ℕ → Option (Formula × Boxed)
keep_of calls e = option_map (keep calls.grammar calls.marks) (slice_get calls.edges e)

abbrev pub keeps : CallGraph → List ℕ → List (Formula × Boxed)
keeps calls cycle = flat_map (λ e. option_to_list (keep_of calls e)) cycle

-- the conditions of a cycle's edges at one length of the part
abbrev pub joint_of : CallGraph → List ℕ → Formula × Boxed
joint_of calls cycle = joint (keeps calls cycle)

abbrev pub is_checked : Refutation → Formula × Boxed → Bool
is_checked r part = checks part.0 part.1 r

-- a dead edge's refutation checks against the edge's conditions, a cycle's against its joint
abbrev pub edge_checks : CallGraph → ℕ × Refutation → Bool
edge_checks calls entry = or_false (option_map (is_checked entry.1) (keep_of calls entry.0))

abbrev pub cycle_checks : CallGraph → List ℕ × Refutation → Bool
cycle_checks calls entry = is_checked entry.1 (joint_of calls entry.0)

-- whether each entry's refutation checks: the dead edges', then the cycles'
abbrev pub checked : CallGraph → Certificate → List Bool
checked calls c = map (edge_checks calls) c.dead ++ map (cycle_checks calls) c.cycles

abbrev pub dead_edges : Certificate → List ℕ
dead_edges c = map (λ entry. entry.0) c.dead

abbrev pub cycles_of : Certificate → List (List ℕ)
cycles_of c = map (λ entry. entry.0) c.cycles

-- flags of which those at these places are set
abbrev pub with_set : List Bool → List ℕ → List Bool
with_set flags [] = flags
with_set flags (e ∷ places) = with_set (slice_set flags e true) places

-- the grammar's edges but for the dead ones
abbrev pub live_graph : Grammar → List ℕ → Graph
live_graph g dead = graph_of (length g.rules) (edges_of g) (with_set (replicate (length (edges_of g)) false) dead)
