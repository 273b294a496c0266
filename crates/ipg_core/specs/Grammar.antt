-- A core grammar as contracts see it, and the words that look things up in it.
use Rattle.std.specs.Prelude.{ℕ, List, [], Option, Some, None, Bool, true, false, nat_eq, bytes_eq, slice_get, ◌&&◌}
use Rattle.ipg_core.specs.declared.grammar.Primitive.{Primitive}
use Rattle.ipg_core.specs.declared.grammar.Primitive.TheVariants.{U8, U16LE, U16BE, U32LE, U32BE, U64LE, U64BE, Bytes}
use Rattle.ipg_core.specs.declared.grammar.Sym.{Sym}
use Rattle.ipg_core.specs.declared.grammar.Sym.TheVariants.{Text, Prim, Rule}
use Rattle.ipg_core.specs.declared.grammar.CoreRule.{CoreRule}

-- rules are named by their places in the text, attributes by their places in `names`
pub record Grammar : Type 0 where
  pub rules : List CoreRule
  pub names : List (List ℕ)

abbrev pub rule_at : Grammar → ℕ → Option CoreRule
rule_at g r = slice_get g.rules r

-- the alternative that holds a local rule, as the numbers of a rule and of its alternative; none for a global rule
abbrev pub holder_of : Option CoreRule → Option (ℕ × ℕ)
holder_of None = None
holder_of (Some rule) = rule.holder

abbrev pub or_empty : Option (List ℕ) → List ℕ
or_empty None = []
or_empty (Some name) = name

-- the name at a number, which is empty where there is none
abbrev pub name_at : List (List ℕ) → ℕ → List ℕ
name_at names n = or_empty (slice_get names n)

-- the places of the primitives in their list
abbrev pub primitive_number : Primitive → ℕ
primitive_number U8 = 0
primitive_number U16LE = 1
primitive_number U16BE = 2
primitive_number U32LE = 3
primitive_number U32BE = 4
primitive_number U64LE = 5
primitive_number U64BE = 6
primitive_number Bytes = 7

abbrev pub same_sym : Sym → Sym → Bool
same_sym (Text a) (Text b) = bytes_eq a b
same_sym (Prim p) (Prim q) = nat_eq (primitive_number p) (primitive_number q)
same_sym (Rule r) (Rule s) = nat_eq r s
same_sym (Text a) (Prim q) = false
same_sym (Text a) (Rule s) = false
same_sym (Prim p) (Text b) = false
same_sym (Prim p) (Rule s) = false
same_sym (Rule r) (Text b) = false
same_sym (Rule r) (Prim q) = false

abbrev pub is_text : Sym → Bool
is_text (Text a) = true
is_text (Prim p) = false
is_text (Rule r) = false

-- two alternatives are one
abbrev pub same_place : ℕ × ℕ → ℕ × ℕ → Bool
same_place a b = nat_eq a.0 b.0 && nat_eq a.1 b.1
