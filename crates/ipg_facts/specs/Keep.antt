-- The conditions under which the call of an edge keeps its caller's whole part: facts over variables, then a formula over numbers.
use Rattle.std.specs.Prelude.{ℕ, List, [], ◌∷◌, ◌++◌, length, replicate, Option, Some, None, Bool, nat_eq, slice_get, if◌then◌else◌}
use Rattle.std.specs.List.{list_any}
use Rattle.ipg_core.specs.declared.grammar.CoreAlt.{CoreAlt}
use Rattle.ipg_core.specs.declared.grammar.CoreRule.{CoreRule}
use Rattle.ipg_core.specs.Grammar.{Grammar, rule_at}
use Rattle.ipg_graph.specs.declared.edge.Edge.{Edge}
use Rattle.ipg_lin.specs.declared.formula.Formula.{Formula}
use Rattle.ipg_lin.specs.declared.formula.Boxed.{Boxed}
use Rattle.ipg_facts_forms.specs.declared.fact.Fact.{Fact}
use Rattle.ipg_facts.specs.declared.edition.Edition.{Edition}
use Rattle.ipg_facts.specs.declared.edition.Edition.TheVariants.{Earlier, Later}
use Rattle.ipg_facts_holder.specs.declared.mention.Ask.TheVariants.{AnyOuter}
use Rattle.ipg_facts_variables.specs.declared.variable.Side.{Side}
use Rattle.ipg_facts_variables.specs.declared.variable.Variable.{Variable}
use Rattle.ipg_facts_variables.specs.Variable.{caller_side, holder_side}
use Rattle.ipg_facts_forms.specs.Form.{leq}
use Rattle.ipg_facts_forms.specs.Numbers.{variables_of, all_of}
use Rattle.ipg_facts.specs.Reading.{Scope, length_of, if_later}
use Rattle.ipg_facts.specs.Members.{terms_members, passed_all, own_at}
use Rattle.ipg_facts_holder.specs.Holder.{mentions_some, kept}

-- an alternative none of whose arrays has run
unfoldable pub opening : Grammar → List Bool → Edition → Side → CoreAlt → Scope
opening g marks edition side alt = record {
  edition = edition;
  side = side;
  names = g.names;
  marks = marks;
  terms = alt.terms;
  arrays = replicate (length alt.terms) None;
}

-- the terms that run before one
abbrev pub before : ℕ → List ℕ → List ℕ
before term [] = []
before term (u ∷ order) = if nat_eq u term then [] else u ∷ before term order

-- an alternative mentions an attribute of its holder
unfoldable pub mentions_holder : CoreAlt → Bool
mentions_holder alt = list_any (mentions_some AnyOuter) alt.terms

abbrev pub alt_of : Option CoreRule → ℕ → Option CoreAlt
alt_of None a = None
alt_of (Some rule) a = slice_get rule.alts a

abbrev pub alt_at : Grammar → ℕ × ℕ → Option CoreAlt
alt_at g at = alt_of (rule_at g at.0) at.1

-- the holder's part is at least as long, and these of its terms have run
unfoldable pub held_facts : Grammar → List Bool → CoreAlt → CoreAlt → List ℕ → List Fact
held_facts g marks holder caller terms =
    leq (length_of (opening g marks Later caller_side caller)) (length_of (opening g marks Later holder_side holder))
    ++ terms_members (opening g marks Later holder_side holder) terms

-- those that matter
unfoldable pub held : Grammar → List Bool → ℕ × ℕ → Option CoreAlt → CoreAlt → List Fact
held g marks at None caller = []
held g marks at (Some holder) caller = held_facts g marks holder caller (kept g at holder.terms caller.terms holder.order)

unfoldable pub holder_facts : Grammar → List Bool → Option (ℕ × ℕ) → CoreAlt → List Fact
holder_facts g marks None caller = []
holder_facts g marks (Some at) caller = if mentions_holder caller then held g marks at (alt_at g at) caller else []

-- the terms before the edge's term have run, and its call is made on the whole part
unfoldable pub caller_facts : Grammar → List Bool → Edition → Edge → CoreAlt → List Fact
caller_facts g marks edition e caller =
    terms_members (opening g marks edition caller_side caller) (before e.term caller.order)
    ++ own_at (passed_all (opening g marks edition caller_side caller) (before e.term caller.order)) e.term e.branch

unfoldable pub rule_facts : Grammar → List Bool → Edition → Edge → Option CoreRule → Option CoreAlt → List Fact
rule_facts g marks edition e (Some rule) (Some caller) =
    if_later edition (holder_facts g marks rule.holder caller) ++ caller_facts g marks edition e caller
rule_facts g marks edition e (Some rule) None = []
rule_facts g marks edition e None alt = []

-- the members of the edge's conditions, in order
unfoldable pub edge_facts : Grammar → List Bool → Edition → Edge → List Fact
edge_facts g marks edition e = rule_facts g marks edition e (rule_at g e.caller) (alt_at g (e.caller, e.alt))

-- the conditions of an edge
unfoldable pub keep : Grammar → List Bool → Edge → Formula × Boxed
keep g marks e = all_of (edge_facts g marks Later e)

-- the variables of an edge's conditions, by their numbers
unfoldable pub variables : Grammar → List Bool → Edge → List Variable
variables g marks e = variables_of (edge_facts g marks Later e)

-- as they were when they knew less
unfoldable pub keep_before : Grammar → List Bool → Edge → Formula × Boxed
keep_before g marks e = all_of (edge_facts g marks Earlier e)
