-- When a place of an alternative's part lies in nothing that its slots take: what the holder and the terms put, and of each slot
-- that it misses the place.
use Rattle.std.specs.Prelude.{◌≡◌, ℕ, zero, suc, List, [], ◌∷◌, ◌++◌, length, Option, Some, None, Bool, pos, slice_get}
use Rattle.ipg_core.specs.declared.grammar.Primitive.{Primitive}
use Rattle.ipg_core.specs.declared.grammar.Primitive.TheVariants.{Bytes}
use Rattle.ipg_core.specs.declared.grammar.Sym.{Sym}
use Rattle.ipg_core.specs.declared.grammar.Sym.TheVariants.{Text, Prim, Rule}
use Rattle.ipg_core.specs.declared.grammar.CoreExpr.{CoreExpr}
use Rattle.ipg_core.specs.declared.grammar.CoreSlot.{CoreSlot}
use Rattle.ipg_core.specs.declared.grammar.CoreTerm.{CoreTerm}
use Rattle.ipg_core.specs.declared.grammar.CoreTerm.TheVariants.{Slot, Pick}
use Rattle.ipg_core.specs.declared.grammar.CoreAlt.{CoreAlt}
use Rattle.ipg_core.specs.declared.grammar.CoreRule.{CoreRule}
use Rattle.ipg_core.specs.Grammar.{Grammar, rule_at}
use Rattle.ipg_core.specs.Touch.{width}
use Rattle.ipg_lin.specs.declared.formula.Formula.{Formula}
use Rattle.ipg_lin.specs.declared.formula.Boxed.{Boxed}
use Rattle.ipg_facts_forms.specs.declared.fact.Form.{Form}
use Rattle.ipg_facts_forms.specs.declared.fact.Fact.{Fact}
use Rattle.ipg_facts_forms.specs.declared.fact.Fact.TheVariants.{All, Any}
use Rattle.ipg_facts.specs.declared.edition.Edition.TheVariants.{Later}
use Rattle.ipg_facts_variables.specs.declared.variable.Side.{Side}
use Rattle.ipg_facts_variables.specs.declared.variable.Side.TheVariants.{Point}
use Rattle.ipg_facts_variables.specs.Variable.{caller_side, whole}
use Rattle.ipg_facts_forms.specs.Form.{mention, shifted, leq, less, choice}
use Rattle.ipg_facts.specs.Reading.{Scope, length_of, nought, read, form}
use Rattle.ipg_facts.specs.Members.{slot_members, members, passed}
use Rattle.ipg_facts.specs.Keep.{opening, holder_facts, alt_at}
use Rattle.ipg_facts_forms.specs.Numbers.{all_of}

-- a side of its own, so that no variable of an alternative is the place's
abbrev pub point_side : Side
point_side = Point

-- the place, a number of 64 bits
abbrev pub point : Form
point = mention (whole point_side) []

-- the place isn't one of the first bytes from l
unfoldable pub misses_first : Form → ℕ → List Fact
misses_first l zero = []
misses_first l (suc w) = choice (less point l) (leq (shifted l (pos (suc w))) point)

-- the place isn't within [l, r]
unfoldable pub misses_all : Form → Form → List Fact
misses_all l r = choice (less point l) (leq r point)

unfoldable pub primitive_misses : Primitive → Form → Form → List Fact
primitive_misses Bytes l r = misses_all l r
primitive_misses prim l r = misses_first l (width prim)

-- the place is outside of what the symbol takes of [l, r]: a terminal or a number its own bytes, raw bytes and a call all of them
unfoldable pub misses : Sym → Form → Form → List Fact
misses (Text bytes) l r = misses_first l (length bytes)
misses (Prim prim) l r = primitive_misses prim l r
misses (Rule callee) l r = misses_all l r

abbrev pub slot_misses : Scope → CoreSlot → List Fact
slot_misses scope slot = misses slot.sym (form scope slot.from) (form scope slot.to)

-- what a slot puts, and that it misses the place
abbrev pub slot_gap : Scope → ℕ → CoreSlot → List Fact
slot_gap scope term slot = slot_members scope term slot ++ slot_misses scope slot

-- one member for each branch of a switch, as its conditions have it, each branch missing the place
unfoldable pub gap_branches : Scope → ℕ → List Fact → List (CoreExpr × CoreSlot) → CoreSlot → List Fact
gap_branches scope term earlier [] other = All (earlier ++ slot_gap scope term other) ∷ []
gap_branches scope term earlier (c ∷ cases) other =
    All (earlier ++ ((read scope c.0).holds ++ slot_gap scope term c.1))
    ∷ gap_branches scope term (earlier ++ (read scope c.0).fails) cases other

-- what a term puts; of an array or a repetition it isn't said that it misses the place
unfoldable pub gap_members : Scope → ℕ → Option CoreTerm → List Fact
gap_members scope term (Some (Slot slot)) = slot_gap scope term slot
gap_members scope term (Some (Pick cases other)) = Any (gap_branches scope term [] cases other) ∷ []
gap_members scope term at = members scope term at

-- terms that run one after another
unfoldable pub gap_terms : Scope → List ℕ → List Fact
gap_terms scope [] = []
gap_terms scope (term ∷ order) = gap_members scope term (slice_get scope.terms term) ++ gap_terms (passed scope term) order

-- the place is one of the alternative's part
unfoldable pub is_place : Scope → List Fact
is_place scope = leq nought point ++ less point (length_of scope)

-- the place of an alternative, of the holder at hand, that all of its slots miss
unfoldable pub gap_facts : Grammar → List Bool → Option (ℕ × ℕ) → CoreAlt → List Fact
gap_facts g marks holder alt =
    is_place (opening g marks Later caller_side alt)
    ++ (holder_facts g marks holder alt ++ gap_terms (opening g marks Later caller_side alt) alt.order)

unfoldable pub rule_gap : Grammar → List Bool → Option CoreRule → Option CoreAlt → List Fact
rule_gap g marks (Some rule) (Some alt) = gap_facts g marks rule.holder alt
rule_gap g marks (Some rule) None = []
rule_gap g marks None alt = []

-- the grammar has the alternative
abbrev pub HasAlternative : Grammar → ℕ → ℕ → Type 0
HasAlternative g rule alt = (found : CoreAlt) × (alt_at g (rule, alt) ≡ Some found)

-- as a formula: variable 0 is the length of the part, variable 1 the place
unfoldable pub gap : Grammar → List Bool → ℕ → ℕ → Formula × Boxed
gap g marks rule alt = all_of (rule_gap g marks (rule_at g rule) (alt_at g (rule, alt)))
