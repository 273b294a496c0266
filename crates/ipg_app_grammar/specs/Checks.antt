-- Whether parsing by a core grammar ends, and what is said of one by which it may not.
use Rattle.std.specs.Prelude.{◌≡◌, ℕ, ℤ, List, [], ◌∷◌, ◌++◌, codes, decimal, slice_get, Option, None, Some, Ok, Err}
use Rattle.std.specs.List.{flat_map}
use Rattle.std.specs.Fmt.{signed_decimal}
use Rattle.ipg_core.specs.Grammar.{Grammar, rule_at}
use Rattle.ipg_graph.specs.declared.edge.Edge.{Edge}
use Rattle.ipg_facts_edges.specs.Edges.{edges_of}
use Rattle.ipg_lin.specs.Formula.{assigned}
use Rattle.ipg_proof.specs.Proves.{Accepts}
use Rattle.ipg_term.specs.Loops.{Loops}
use Rattle.ipg_app_text.specs.Said.{Said, refused}
use Rattle.ipg_app_text.specs.CoreOf.{Answer, name_of}

-- RULE/ALT/TERM/BRANCH
abbrev pub edge_words : Grammar → Edge → List ℕ
edge_words g edge = name_of (rule_at g edge.caller) ++ (47 ∷ (decimal edge.alt ++ (47 ∷ (decimal edge.term ++ (47 ∷ decimal edge.branch)))))

-- a space, and the edge
abbrev pub next_edge : Grammar → Option Edge → List ℕ
next_edge g None = []
next_edge g (Some edge) = 32 ∷ edge_words g edge

-- the edges of these numbers
abbrev pub cycle_words : Grammar → List ℕ → List ℕ
cycle_words g cycle = flat_map (λ e. next_edge g (slice_get (edges_of g) e)) cycle

abbrev pub may_loop : Grammar → List ℕ → ℤ → Said
may_loop g cycle eoi = refused (codes "G13 MayLoop EOI=" ++ (signed_decimal eoi ++ cycle_words g cycle))

-- what is said of the first cycle of calls that may keep the whole part, and of the least length at which it may
pub record IsLoop (g : Grammar) (said : Said) : Type 0 where
  pub cycle : List ℕ
  pub values : List ℤ
  pub loops : Loops g cycle values
  pub is : said ≡ may_loop g cycle (assigned values 0)

-- the grammar, by which parsing ends; or G13
abbrev pub Checks : Grammar → Answer → Type 0
Checks g (Ok same) = (same ≡ g) × Accepts g
Checks g (Err said) = IsLoop g said
