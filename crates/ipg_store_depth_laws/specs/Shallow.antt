-- How deep the expressions of a text's core grammar nest.
use Rattle.std.specs.Prelude.{◌≡◌, ℕ, List, Ok}
use Rattle.std.specs.List.{AllByRecursion}
use Rattle.ipg_ast.specs.declared.grammar.Grammar as written
use Rattle.ipg_core.specs.declared.grammar.CoreExpr.{CoreExpr}
use Rattle.ipg_core.specs.declared.grammar.CoreSlot.{CoreSlot}
use Rattle.ipg_core.specs.declared.grammar.CoreTerm.{CoreTerm}
use Rattle.ipg_core.specs.declared.grammar.CoreTerm.TheVariants.{Slot, Set, Test, Repeat, Many, Pick}
use Rattle.ipg_core.specs.declared.grammar.CoreAlt.{CoreAlt}
use Rattle.ipg_core.specs.declared.grammar.CoreRule.{CoreRule}
use Rattle.ipg_core.specs.Grammar.{Grammar}
use Rattle.ipg_read_syntax.specs.Reading.{read_of}
use Rattle.ipg_names.specs.Resolved.{names_of}
use Rattle.ipg_complete.specs.Unordered.{core_of}
use Rattle.ipg_complete.specs.Completion.{completed}
use Rattle.ipg_order.specs.Answer.{without_orders}
use Rattle.ipg_store_body.specs.Fits.{NestsWithin, NestsRule}

-- ---- P holds of each expression

abbrev pub EachInSlot : (CoreExpr → Type 0) → CoreSlot → Type 0
EachInSlot P slot = P slot.from × P slot.to

abbrev pub EachInCase : (CoreExpr → Type 0) → CoreExpr × CoreSlot → Type 0
EachInCase P c = P c.0 × EachInSlot P c.1

abbrev pub EachInTerm : (CoreExpr → Type 0) → CoreTerm → Type 0
EachInTerm P (Slot slot) = EachInSlot P slot
EachInTerm P (Set attr value) = P value
EachInTerm P (Test cond) = P cond
EachInTerm P (Repeat first last item from to) = P first × (P last × (P from × P to))
EachInTerm P (Pick cases other) = AllByRecursion (EachInCase P) cases × EachInSlot P other
EachInTerm P (Many item from to) = P from × P to

abbrev pub EachInAlt : (CoreExpr → Type 0) → CoreAlt → Type 0
EachInAlt P alt = AllByRecursion (EachInTerm P) alt.terms

abbrev pub EachInRule : (CoreExpr → Type 0) → CoreRule → Type 0
EachInRule P rule = AllByRecursion (EachInAlt P) rule.alts

-- ---- laws

-- the grammar is the core grammar of a text, or would be but for what its orders and its repetitions may refuse
pub record IsOfText (text : List ℕ) (g : Grammar) : Type 0 where
  pub written_as : written.Grammar
  pub reads : read_of text ≡ Ok written_as
  pub is : without_orders g ≡ core_of (completed (names_of written_as))

-- no expression of it nests deeper than 257
abbrev pub TextIsShallow : Type 0
TextIsShallow = (text : List ℕ) (g : Grammar) → IsOfText text g → AllByRecursion (EachInRule (NestsWithin 257)) g.rules

-- so none nests deeper than a body may say
abbrev pub TextNests : Type 0
TextNests = (text : List ℕ) (g : Grammar) → IsOfText text g → AllByRecursion NestsRule g.rules
