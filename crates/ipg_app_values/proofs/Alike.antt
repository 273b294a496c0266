-- The notes of a cycle are one, and can't be missing.
use Rattle.std.proofs.Common.{◌≡◌, ◌++◌, ℕ, ℤ, List, [], ◌∷◌, slice_get, Option, Some, None, refl, sym, ap, ◌∙◌}
use Rattle.ipg_ast.specs.declared.grammar.Grammar as written
use Rattle.ipg_core.specs.Grammar.{Grammar}
use Rattle.ipg_core.specs.MustTouch.{Marks}
use Rattle.ipg_graph.specs.declared.edge.Edge.{Edge}
use Rattle.ipg_lin.specs.declared.formula.Formula.{Formula}
use Rattle.ipg_lin.specs.declared.formula.Boxed.{Boxed}
use Rattle.ipg_facts.specs.Keep.{keep, variables}
use Rattle.ipg_facts_edges.specs.Edges.{edges_of}
use Rattle.ipg_solve_values.specs.Laws.{TellsOnce}
use Rattle.ipg_solve_values.specs.Sure.{Tells}
use Rattle.ipg_app_explain.specs.Named.{rule_name}
use Rattle.ipg_app_values.specs.Laws.{NotedOnce, NotedSomehow}
use Rattle.ipg_app_values.specs.Names.{CallSite, name_of}
use Rattle.ipg_app_values.specs.Notes.{valued, IsNamed, IsValueOn, IsEdgeLine, IsLine, on_length, values_line, length_line}
use Rattle.ipg_app_values.proofs.Turns.{once, somehow}

module _ (tells_once : TellsOnce) where
  one_value : (f : Formula) (box : Boxed) (x : ℕ) (name one other : List ℕ) → IsNamed f box x name one → IsNamed f box x name other → one ≡ other
  one_value f box x [] one other h k = h ∙ sym k
  one_value f box x (b ∷ name) one other (v, tells, h) (w, also, k) = h ∙ ap (valued (b ∷ name)) (tells_once f box x v w tells also) ∙ sym k

  one_line : (g : written.Grammar) (core : Grammar) (marks : Marks) (eoi : ℤ) (edge : Option Edge) (one other : List ℕ)
      → IsEdgeLine g core marks eoi edge one → IsEdgeLine g core marks eoi edge other → one ≡ other
  one_line g core marks eoi None one other h k = h ∙ sym k
  one_line g core marks eoi (Some edge) one other (values, each, h) (others, all, k) =
      let site : CallSite = record { written = g; core = core; edge = edge } in
      let part = keep core marks edge in
      let same = once (IsValueOn site part eoi) (λ n variable s t. one_value part.0 (on_length part.1 eoi) n (name_of site variable) s t) 0
      (variables core marks edge)
      values others each all
      in
      h ∙ ap (values_line (rule_name g edge.caller)) same ∙ sym k

  pub noted_once : NotedOnce
  noted_once g core marks cycle eoi one other h k =
      let same = once (IsLine g core marks eoi) (λ n e s t. one_line g core marks eoi (slice_get (edges_of core) e) s t) 0 cycle h.lines k.lines
      h.each k.each
      in
      h.is ∙ ap (λ lines. length_line eoi ++ lines) same ∙ sym k.is

-- a variable has a value in every solution, or it has none
some_told : (f : Formula) (box : Boxed) (x : ℕ) → ((value : Option ℤ) → Tells f box x value → ⊥) → ⊥
some_told f box x none = none None (λ value sure. none (Some value) sure)

some_value : (f : Formula) (box : Boxed) (x : ℕ) (name : List ℕ) → ((text : List ℕ) → IsNamed f box x name text → ⊥) → ⊥
some_value f box x [] none = none [] refl
some_value f box x (b ∷ name) none = some_told f box x (λ value tells. none (valued (b ∷ name) value) (value, tells, refl))

some_line : (g : written.Grammar) (core : Grammar) (marks : Marks) (eoi : ℤ) (edge : Option Edge)
    → ((text : List ℕ) → IsEdgeLine g core marks eoi edge text → ⊥) → ⊥
some_line g core marks eoi None none = none [] refl
some_line g core marks eoi (Some edge) none =
    let site : CallSite = record { written = g; core = core; edge = edge } in
    let part = keep core marks edge in
    somehow (IsValueOn site part eoi) (λ n variable. some_value part.0 (on_length part.1 eoi) n (name_of site variable)) 0 (variables core marks edge)
    (λ values each. none (values_line (rule_name g edge.caller) values) (values, each, refl))

pub noted_somehow : NotedSomehow
noted_somehow g core marks cycle eoi none =
    somehow (IsLine g core marks eoi) (λ n e. some_line g core marks eoi (slice_get (edges_of core) e)) 0 cycle
    (λ lines each. none (length_line eoi ++ lines) (record { lines = lines; each = each; is = refl }))
