-- When the names of a grammar can be resolved: it is within the limits, no list of rules, alternatives or terms is empty, `where` has one level.
use Rattle.std.specs.Prelude.{◌≡◌, ℕ, ◌+◌, ◌^◌, ◌≤◌, ◌<◌, [], length, sum_by}
use Rattle.std.specs.List.{AllByRecursion}
use Rattle.ipg_ast.specs.declared.grammar.Grammar.{Grammar}
use Rattle.ipg_ast.specs.declared.grammar.Rule.{Rule, out-Rule}
use Rattle.ipg_ast.specs.declared.grammar.Alt.{Alt, out-Alt}
use Rattle.ipg_ast.specs.declared.grammar.Term.{Term}
use Rattle.ipg_ast.specs.declared.grammar.Term.TheVariants.{Slot as SlotTerm, Set, Test, Repeat, Many, Pick}
use Rattle.ipg_ast.specs.declared.grammar.Case.{Case}
use Rattle.ipg_ast.specs.declared.grammar.Slot.{Slot}
use Rattle.ipg_ast.specs.declared.grammar.What.{What}
use Rattle.ipg_ast.specs.declared.grammar.What.TheVariants.{Text, Call}
use Rattle.ipg_ast.specs.declared.grammar.Place.{Place}
use Rattle.ipg_ast.specs.declared.grammar.Place.TheVariants.{Open, Length, Ends}
use Rattle.ipg_ast.specs.declared.grammar.Field.{Field}
use Rattle.ipg_ast.specs.declared.grammar.Field.TheVariants.{Id as Attribute, Start, End}
use Rattle.ipg_ast.specs.declared.grammar.Expr.{Expr}
use Rattle.ipg_ast.specs.declared.grammar.Expr.TheOpen.{Expr-F}
use Rattle.ipg_ast.specs.declared.grammar.Expr.TheFolds.{fold-Expr}
use Rattle.ipg_ast.specs.Shape.{IsFilled, max_rules, max_alts, max_terms, tool_rules}

-- ---- terms, branches of switches and identifiers, counted together

abbrev pub field_count : Field → ℕ
field_count (Attribute i) = 1
field_count Start = 0
field_count End = 0

abbrev pub count_step : Expr-F ℕ → ℕ
count_step (Expr-F.Num n) = 0
count_step Expr-F.Eoi = 0
count_step (Expr-F.Id i) = 1
count_step (Expr-F.Part of f) = 1 + field_count f
count_step (Expr-F.Item of e f) = 1 + (e + field_count f)
count_step (Expr-F.Group e) = e
count_step (Expr-F.Neg e) = e
count_step (Expr-F.Not e) = e
count_step (Expr-F.Two op a b) = a + b
count_step (Expr-F.Both a b) = a + b
count_step (Expr-F.Either a b) = a + b
count_step (Expr-F.Cond c a b) = c + (a + b)

abbrev pub expr_count : Expr → ℕ
expr_count = fold-Expr ℕ count_step

abbrev pub place_count : Place → ℕ
place_count Open = 0
place_count (Length e) = expr_count e
place_count (Ends l r) = expr_count l + expr_count r

abbrev pub what_count : What → ℕ
what_count (Text bytes) = 0
what_count (Call name) = 1

abbrev pub slot_count : Slot → ℕ
slot_count slot = what_count slot.what + place_count slot.place

abbrev pub case_count : Case → ℕ
case_count c = 1 + (expr_count c.cond + slot_count c.slot)

abbrev pub term_count : Term → ℕ
term_count (SlotTerm slot) = 1 + slot_count slot
term_count (Set name value) = 1 + (1 + expr_count value)
term_count (Test at cond) = 1 + expr_count cond
term_count (Repeat var first last item from to) = 1 + (2 + (expr_count first + (expr_count last + (expr_count from + expr_count to))))
term_count (Many at item place) = 1 + (1 + place_count place)
term_count (Pick at cases other) = 1 + (sum_by case_count cases + (1 + slot_count other))

abbrev pub local_alt_count : Alt → ℕ
local_alt_count alt = sum_by term_count (out-Alt alt).terms

abbrev pub local_count : Rule → ℕ
local_count rule = 1 + sum_by local_alt_count (out-Rule rule).alts

abbrev pub alt_count : Alt → ℕ
alt_count alt = sum_by term_count (out-Alt alt).terms + sum_by local_count (out-Alt alt).locals

abbrev pub rule_count : Rule → ℕ
rule_count rule = 1 + sum_by alt_count (out-Rule rule).alts

abbrev pub parts_count : Grammar → ℕ
parts_count g = sum_by rule_count g.rules

-- ---- the conditions

pub record IsReadableLocalAlt (alt : Alt) : Type 0 where
  pub terms : IsFilled max_terms (out-Alt alt).terms
  pub no_locals : (out-Alt alt).locals ≡ []

pub record IsReadableLocal (rule : Rule) : Type 0 where
  pub count : IsFilled max_alts (out-Rule rule).alts
  pub each : AllByRecursion IsReadableLocalAlt (out-Rule rule).alts

pub record IsReadableAlt (alt : Alt) : Type 0 where
  pub terms : IsFilled max_terms (out-Alt alt).terms
  pub locals : AllByRecursion IsReadableLocal (out-Alt alt).locals

pub record IsReadableRule (rule : Rule) : Type 0 where
  pub count : IsFilled max_alts (out-Rule rule).alts
  pub each : AllByRecursion IsReadableAlt (out-Rule rule).alts

pub record IsReadable (g : Grammar) : Type 0 where
  pub some : 0 < length g.rules
  pub count : tool_rules g.rules ≤ max_rules
  pub each : AllByRecursion IsReadableRule g.rules
  pub few : parts_count g < 2 ^ 32
