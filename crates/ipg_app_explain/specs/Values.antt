-- The names that a term read which failed, with their values, for a person.
use Rattle.std.specs.Prelude.{ℕ, ℤ, List, [], ◌∷◌, ◌++◌, codes, map, take, flat_map, Option, None, Some}
use Rattle.std.specs.Fmt.{signed_decimal}
use Rattle.ipg_core.specs.declared.grammar.CoreField.{CoreField}
use Rattle.ipg_core.specs.declared.grammar.CoreField.TheVariants.{Attr, Start, End}
use Rattle.ipg_core.specs.Grammar.{name_at}
use Rattle.ipg_core.specs.Lines.{primitive_name}
use Rattle.ipg_ast.specs.declared.grammar.Grammar.{Grammar}
use Rattle.ipg_ast.specs.declared.grammar.Term.{Term}
use Rattle.ipg_ast.specs.declared.grammar.Term.TheVariants.{Slot, Set, Test, Repeat, Many, Pick}
use Rattle.ipg_ast.specs.declared.grammar.What.{What}
use Rattle.ipg_ast.specs.declared.grammar.What.TheVariants as what
use Rattle.ipg_mach_failures.specs.declared.failure.Failure.{Failure}
use Rattle.ipg_mach_failures.specs.declared.values.Taken.{Taken}
use Rattle.ipg_mach_failures.specs.declared.values.Taken.TheVariants.{Text, Prim, Rule}
use Rattle.ipg_mach_failures.specs.declared.values.Operand.{Operand}
use Rattle.ipg_mach_failures.specs.declared.values.Operand.TheVariants.{Eoi, Own, Outer, Loop, Seen}
use Rattle.ipg_mach_failures.specs.declared.values.Valued.{Valued}
use Rattle.ipg_app_explain.specs.Bytes.{most_shown}
use Rattle.ipg_app_explain.specs.Named.{cut, rule_name}
use Rattle.ipg_app_explain.specs.Spot.{seen_byte}
use Rattle.ipg_app_explain.specs.Terms.{term_at}

-- ---- what a result is called

-- a string in quotes
abbrev pub quoted : List ℕ → List ℕ
quoted bytes = 34 ∷ (map seen_byte (take most_shown bytes) ++ 34 ∷ [])

abbrev pub what_name : What → List ℕ
what_name (what.Text bytes) = quoted bytes
what_name (what.Call name) = cut name

-- a string by its bytes; a switch behind which an interval begins is called so, whatever it took
abbrev pub text_name : Option Term → List ℕ
text_name None = []
text_name (Some (Slot slot)) = what_name slot.what
text_name (Some (Set name value)) = []
text_name (Some (Test at cond)) = []
text_name (Some (Repeat var first last item from to)) = []
text_name (Some (Many at item place)) = []
text_name (Some (Pick at cases other)) = codes "switch"

abbrev pub taken_name : Grammar → Option Term → Taken → List ℕ
taken_name g term Text = text_name term
taken_name g term (Prim prim) = primitive_name prim
taken_name g term (Rule r) = rule_name g r

-- ---- what a name is in the text

-- an attribute, by its number
abbrev pub attr_name : List (List ℕ) → ℕ → List ℕ
attr_name names a = cut (name_at names a)

abbrev pub field_name : List (List ℕ) → CoreField → List ℕ
field_name names (Attr a) = attr_name names a
field_name names Start = codes "start"
field_name names End = codes "end"

-- the loop variable of an array
abbrev pub loop_name : Option Term → List ℕ
loop_name None = []
loop_name (Some (Slot slot)) = []
loop_name (Some (Set name value)) = []
loop_name (Some (Test at cond)) = []
loop_name (Some (Repeat var first last item from to)) = cut var.name
loop_name (Some (Many at item place)) = []
loop_name (Some (Pick at cases other)) = []

-- ---- names with their values

abbrev pub value_words : Option ℤ → List ℕ
value_words None = codes " has no value"
value_words (Some z) = codes " = " ++ signed_decimal z

-- a field of the result of term t of an alternative
abbrev pub field_words : Grammar → List (List ℕ) → (r a t : ℕ) → Taken → CoreField → List ℕ
field_words g names r a t taken field = taken_name g (term_at g r a t) taken ++ 46 ∷ field_name names field

module _ (g : Grammar) (names : List (List ℕ)) (f : Failure) where
  abbrev pub operand_name : Operand → List ℕ
  operand_name Eoi = codes "EOI"
  operand_name (Own a) = attr_name names a
  operand_name (Outer a) = attr_name names a
  operand_name Loop = loop_name (term_at g f.rule f.alt f.term)
  operand_name (Seen term taken field) = field_words g names f.rule f.alt term taken field

  abbrev pub valued_words : Valued → List ℕ
  valued_words v = operand_name v.operand ++ value_words v.value

  abbrev pub next_valued : Valued → List ℕ
  next_valued v = codes ", " ++ valued_words v

  -- a line of them, where there are any
  abbrev pub values_line : List Valued → List ℕ
  values_line [] = []
  values_line (v ∷ values) = valued_words v ++ (flat_map next_valued values ++ codes ".\n")
