-- Why parsing by a text's grammar may not end, and what a text comes to in all.
use Rattle.std.specs.Prelude.{◌≡◌, ◌⊎◌, ℕ, ℤ, List, [], flat_map, slice_get, Ok, Err, Option, None, Some}
use Rattle.ipg_ast.specs.declared.grammar.Grammar as written
use Rattle.ipg_core.specs.Grammar.{Grammar}
use Rattle.ipg_graph.specs.declared.edge.Edge.{Edge}
use Rattle.ipg_facts_edges.specs.Edges.{edges_of}
use Rattle.ipg_lin.specs.Formula.{assigned}
use Rattle.ipg_proof.specs.Proves.{Accepts}
use Rattle.ipg_term.specs.Loops.{Loops}
use Rattle.ipg_app_explain.specs.declared.why.Why.TheVariants as why
use Rattle.ipg_app_explain.specs.Terms.{call_place}
use Rattle.ipg_app_values.specs.Notes.{AreNotes}
use Rattle.ipg_app_grammar.specs.Checks.{may_loop}
use Rattle.ipg_app_text.specs.CoreOf.{grammar_in, CoreFrom, CoreOf}
use Rattle.ipg_app_text.specs.Reasons.{Reason}
use Rattle.ipg_app_text.specs.Reasons.{CoreOrReason, IsUnread, listed}

abbrev pub edge_places : written.Grammar → Option Edge → List ℕ
edge_places g None = []
edge_places g (Some edge) = listed (call_place g edge.caller edge.alt edge.term edge.branch)

-- where the calls of a cycle are named, in the order of the cycle
abbrev pub cycle_places : written.Grammar → Grammar → List ℕ → List ℕ
cycle_places g core cycle = flat_map (λ e. edge_places g (slice_get (edges_of core) e)) cycle

pub record IsCycle (g : written.Grammar) (core : Grammar) (reason : Reason) : Type 0 where
  pub cycle : List ℕ
  pub values : List ℤ
  pub loops : Loops core cycle values
  pub notes : List ℕ
  pub noted : AreNotes g core loops.marks cycle (assigned values 0) notes
  pub is : reason ≡ record { said = may_loop core cycle (assigned values 0); why = why.MayLoop; places = cycle_places g core cycle; notes = notes }

-- it has none, or parsing by it may not end
abbrev pub IsRefused : written.Grammar → Reason → Type 0
IsRefused g reason = CoreOrReason g (Err reason) ⊎ ((core : Grammar) × CoreFrom g (Ok core) × IsCycle g core reason)

-- none where parsing by the core grammar of the text always ends
abbrev pub Judged : List ℕ → Option Reason → Type 0
Judged text None = (core : Grammar) × CoreOf text (Ok core) × Accepts core
Judged text (Some reason) = IsUnread text reason ⊎ ((g : written.Grammar) × (grammar_in text ≡ Ok g) × IsRefused g reason)

-- the same grammar, and the core grammar that it has, by which parsing ends
abbrev pub ClearsGrammar : written.Grammar → written.Grammar → Grammar → Type 0
ClearsGrammar g same core = (same ≡ g) × CoreFrom g (Ok core) × Accepts core

-- the same grammars, by which parsing ends
abbrev pub ClearsCore : written.Grammar → Grammar → written.Grammar → Grammar → Type 0
ClearsCore g core same accepted = (same ≡ g) × (accepted ≡ core) × Accepts core
