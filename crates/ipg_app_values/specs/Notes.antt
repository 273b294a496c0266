-- What is noted of a cycle of calls: the length of the part, and for each call the values that always go with it.
use Rattle.std.specs.Prelude.{◌≡◌, ℕ, ℤ, List, [], ◌∷◌, ◌++◌, codes, slice_get, Option, None, Some}
use Rattle.std.specs.Fmt.{signed_decimal}
use Rattle.ipg_ast.specs.declared.grammar.Grammar as written
use Rattle.ipg_core.specs.Grammar.{Grammar}
use Rattle.ipg_core.specs.MustTouch.{Marks}
use Rattle.ipg_graph.specs.declared.edge.Edge.{Edge}
use Rattle.ipg_lin.specs.declared.formula.Formula.{Formula}
use Rattle.ipg_lin.specs.declared.formula.Boxed.{Boxed}
use Rattle.ipg_facts_variables.specs.declared.variable.Variable.{Variable}
use Rattle.ipg_facts.specs.Keep.{keep, variables}
use Rattle.ipg_facts_edges.specs.Edges.{edges_of}
use Rattle.ipg_solve_values.specs.Narrowed.{narrowed}
use Rattle.ipg_solve_values.specs.Sure.{Tells}
use Rattle.ipg_app_explain.specs.Named.{rule_name}
use Rattle.ipg_app_values.specs.Names.{CallSite, name_of}
use Rattle.ipg_app_values.specs.Turn.{InTurn}

-- ---- a variable

-- NAME = VALUE behind a comma
abbrev pub valued : List ℕ → Option ℤ → List ℕ
valued name None = []
valued name (Some value) = codes ", " ++ (name ++ (codes " = " ++ signed_decimal value))

-- of a variable with a name is told the value that it has in every solution, if it has one
abbrev pub IsNamed : Formula → Boxed → ℕ → List ℕ → List ℕ → Type 0
IsNamed formula box x [] text = text ≡ []
IsNamed formula box x (b ∷ name) text = (value : Option ℤ) × Tells formula box x value × (text ≡ valued (b ∷ name) value)

abbrev pub IsValue : CallSite → Formula → Boxed → ℕ → Variable → List ℕ → Type 0
IsValue site formula box x variable text = IsNamed formula box x (name_of site variable) text

-- ---- a call

-- the bounds of the conditions' variables, where the part has this length
abbrev pub on_length : Boxed → ℤ → Boxed
on_length box eoi = narrowed box 0 eoi eoi

abbrev pub IsValueOn : CallSite → Formula × Boxed → ℤ → ℕ → Variable → List ℕ → Type 0
IsValueOn site part eoi = IsValue site part.0 (on_length part.1 eoi)

-- a line, where there are such values
abbrev pub values_line : List ℕ → List ℕ → List ℕ
values_line rule [] = []
values_line rule (b ∷ values) = codes "Then in " ++ (rule ++ 58 ∷ (values ++ codes ".\n"))

abbrev pub IsSiteLine : CallSite → Marks → ℤ → List ℕ → Type 0
IsSiteLine site marks eoi text =
    (values : List ℕ)
    × InTurn (IsValueOn site (keep site.core marks site.edge) eoi) 0 (variables site.core marks site.edge) values
    × (text ≡ values_line (rule_name site.written site.edge.caller) values)

abbrev pub IsEdgeLine : written.Grammar → Grammar → Marks → ℤ → Option Edge → List ℕ → Type 0
IsEdgeLine g core marks eoi None text = text ≡ []
IsEdgeLine g core marks eoi (Some edge) text = IsSiteLine (record { written = g; core = core; edge = edge }) marks eoi text

-- that of the edge of a number
abbrev pub IsLine : written.Grammar → Grammar → Marks → ℤ → ℕ → ℕ → List ℕ → Type 0
IsLine g core marks eoi n e text = IsEdgeLine g core marks eoi (slice_get (edges_of core) e) text

-- ---- the cycle

abbrev pub length_line : ℤ → List ℕ
length_line eoi = codes "They can go round where EOI = " ++ (signed_decimal eoi ++ codes ".\n")

-- the calls by the numbers of their edges
pub record AreNotes (g : written.Grammar) (core : Grammar) (marks : Marks) (cycle : List ℕ) (eoi : ℤ) (text : List ℕ) : Type 0 where
  pub lines : List ℕ
  pub each : InTurn (IsLine g core marks eoi) 0 cycle lines
  pub is : text ≡ length_line eoi ++ lines
