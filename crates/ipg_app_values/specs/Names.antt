-- What a variable of an edge's conditions is called in the text; nothing where it has no name there.
use Rattle.std.specs.Prelude.{ℕ, List, [], ◌∷◌, ◌++◌, codes, Option, None, Some}
use Rattle.ipg_ast.specs.declared.grammar.Grammar as written
use Rattle.ipg_core.specs.Grammar.{Grammar, holder_of, name_at, rule_at}
use Rattle.ipg_graph.specs.declared.edge.Edge.{Edge}
use Rattle.ipg_facts_variables.specs.declared.variable.Side.{Side}
use Rattle.ipg_facts_variables.specs.declared.variable.Side.TheVariants.{Caller, Holder, Point}
use Rattle.ipg_facts_variables.specs.declared.variable.Quantity.{Quantity}
use Rattle.ipg_facts_variables.specs.declared.variable.Quantity.TheVariants.{Whole, Attribute, Loop, Start, End, Named, Value}
use Rattle.ipg_facts_variables.specs.declared.variable.Variable.{Variable}
use Rattle.ipg_app_explain.specs.Named.{cut, label_at, loop_name, rule_name}

-- where a call stands, in a grammar as it is written and in its core grammar
pub record CallSite : Type 0 where
  pub written : written.Grammar
  pub core : Grammar
  pub edge : Edge

-- the alternative that makes the call, or the one that holds its rule
abbrev pub alternative : CallSite → Side → Option (ℕ × ℕ)
alternative site Caller = Some (site.edge.caller, site.edge.alt)
alternative site Holder = holder_of (rule_at site.core site.edge.caller)
alternative site Point = None

abbrev pub label_in : written.Grammar → Option (ℕ × ℕ) → ℕ → List ℕ
label_in g None term = []
label_in g (Some at) term = label_at g at.0 at.1 term

-- a field of what goes by this label
abbrev pub field_of : List ℕ → List ℕ → List ℕ
field_of [] field = []
field_of (b ∷ label) field = b ∷ (label ++ 46 ∷ field)

abbrev pub result_field : CallSite → Side → ℕ → List ℕ → List ℕ
result_field site side term field = field_of (label_in site.written (alternative site side) term) field

-- the caller's EOI is told once for all calls
abbrev pub whole_name : Side → List ℕ
whole_name Caller = []
whole_name Holder = codes "EOI"
whole_name Point = []

-- only the call itself may stand in an array
abbrev pub turn_name : CallSite → Side → List ℕ
turn_name site Caller = loop_name site.written site.edge.caller site.edge.alt site.edge.term
turn_name site Holder = []
turn_name site Point = []

abbrev pub quantity_name : CallSite → Side → Quantity → List ℕ
quantity_name site side Whole = whole_name side
quantity_name site side (Attribute a) = cut (name_at site.core.names a)
quantity_name site side Loop = turn_name site side
quantity_name site side (Start term) = result_field site side term (codes "start")
quantity_name site side (End term) = result_field site side term (codes "end")
quantity_name site side (Named term name) = result_field site side term (cut name)
quantity_name site side (Value e) = []

abbrev pub rule_in : written.Grammar → Option (ℕ × ℕ) → List ℕ
rule_in g None = []
rule_in g (Some at) = rule_name g at.0

-- whose it is, where it isn't the caller's own
abbrev pub owner : CallSite → Side → List ℕ
owner site Caller = []
owner site Holder = codes " of " ++ rule_in site.written (alternative site Holder)
owner site Point = []

abbrev pub owned : List ℕ → List ℕ → List ℕ
owned [] whose = []
owned (b ∷ name) whose = b ∷ (name ++ whose)

abbrev pub name_of : CallSite → Variable → List ℕ
name_of site variable = owned (quantity_name site variable.side variable.of) (owner site variable.side)
