-- The names of attributes: each that is set or that stands behind a dot, once, in the order of first place.
use Rattle.std.specs.Prelude.{ℕ, List, [], ◌∷◌, ◌++◌, flat_map, bytes_eq, if◌then◌else◌}
use Rattle.std.specs.List.{list_any}
use Rattle.ipg_ast.specs.declared.grammar.Grammar.{Grammar}
use Rattle.ipg_ast.specs.declared.grammar.Rule.{Rule, out-Rule}
use Rattle.ipg_ast.specs.declared.grammar.Alt.{Alt, out-Alt}
use Rattle.ipg_ast.specs.declared.grammar.Term.{Term}
use Rattle.ipg_ast.specs.declared.grammar.Term.TheVariants.{Slot as SlotTerm, Set, Test, Repeat, Many, Pick}
use Rattle.ipg_ast.specs.declared.grammar.Case.{Case}
use Rattle.ipg_ast.specs.declared.grammar.Slot.{Slot}
use Rattle.ipg_ast.specs.declared.grammar.Place.{Place}
use Rattle.ipg_ast.specs.declared.grammar.Place.TheVariants.{Open, Length, Ends}
use Rattle.ipg_ast.specs.declared.grammar.Field.{Field}
use Rattle.ipg_ast.specs.declared.grammar.Field.TheVariants.{Id as Attribute, Start, End}
use Rattle.ipg_ast.specs.declared.grammar.Expr.{Expr}
use Rattle.ipg_ast.specs.declared.grammar.Expr.TheOpen.{Expr-F}
use Rattle.ipg_ast.specs.declared.grammar.Expr.TheFolds.{fold-Expr}

abbrev pub NameList : Type 0
NameList = List (List ℕ)

abbrev pub field_names : Field → NameList
field_names (Attribute i) = i.name ∷ []
field_names Start = []
field_names End = []

-- the fields of an expression, those of its parts already gathered
abbrev pub names_step : Expr-F NameList → NameList
names_step (Expr-F.Num n) = []
names_step Expr-F.Eoi = []
names_step (Expr-F.Id i) = []
names_step (Expr-F.Part of f) = field_names f
names_step (Expr-F.Item of e f) = e ++ field_names f
names_step (Expr-F.Group e) = e
names_step (Expr-F.Neg e) = e
names_step (Expr-F.Not e) = e
names_step (Expr-F.Two op a b) = a ++ b
names_step (Expr-F.Both a b) = a ++ b
names_step (Expr-F.Either a b) = a ++ b
names_step (Expr-F.Cond c a b) = c ++ (a ++ b)

abbrev pub expr_names : Expr → NameList
expr_names = fold-Expr NameList names_step

abbrev pub place_names : Place → NameList
place_names Open = []
place_names (Length e) = expr_names e
place_names (Ends l r) = expr_names l ++ expr_names r

abbrev pub slot_names : Slot → NameList
slot_names slot = place_names slot.place

abbrev pub case_names : Case → NameList
case_names c = expr_names c.cond ++ slot_names c.slot

abbrev pub term_names : Term → NameList
term_names (SlotTerm slot) = slot_names slot
term_names (Set name value) = name.name ∷ expr_names value
term_names (Test at cond) = expr_names cond
term_names (Repeat var first last item from to) = expr_names first ++ (expr_names last ++ (expr_names from ++ expr_names to))
term_names (Many at item place) = place_names place
term_names (Pick at cases other) = flat_map case_names cases ++ slot_names other

abbrev pub terms_names : List Term → NameList
terms_names terms = flat_map term_names terms

-- a local rule's alternatives have no local rules
abbrev pub local_alt_names : Alt → NameList
local_alt_names alt = terms_names (out-Alt alt).terms

abbrev pub local_names : Rule → NameList
local_names rule = flat_map local_alt_names (out-Rule rule).alts

abbrev pub alt_names : Alt → NameList
alt_names alt = terms_names (out-Alt alt).terms ++ flat_map local_names (out-Alt alt).locals

abbrev pub rule_names : Rule → NameList
rule_names rule = flat_map alt_names (out-Rule rule).alts

-- each name once: after those seen so far, the ones that are none of them
abbrev pub once : NameList → NameList → NameList
once seen [] = seen
once seen (name ∷ names) = once (if list_any (bytes_eq name) seen then seen else seen ++ name ∷ []) names

abbrev pub attr_names : Grammar → NameList
attr_names g = once [] (flat_map rule_names g.rules)
