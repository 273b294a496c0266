-- How a core grammar is written as the body of a table file.
use Rattle.std.specs.Prelude.{ℕ, List, [], ◌∷◌, ◌++◌, Option, Some, None}
use Rattle.ipg_num.specs.declared.op.Op2.{Op2}
use Rattle.ipg_num.specs.declared.op.Op2.TheVariants.{Add, Sub, Mul, Div, Mod, Shl, Shr, BitAnd, BitOr, BitXor, Eq, Ne, Lt, Le, Gt, Ge}
use Rattle.ipg_core.specs.declared.grammar.Sym.{Sym}
use Rattle.ipg_core.specs.declared.grammar.Sym.TheVariants.{Text, Prim, Rule}
use Rattle.ipg_core.specs.declared.grammar.CoreField.{CoreField}
use Rattle.ipg_core.specs.declared.grammar.CoreField.TheVariants.{Attr, Start, End}
use Rattle.ipg_core.specs.declared.grammar.CoreExpr.{CoreExpr, fold-CoreExpr}
use Rattle.ipg_core.specs.declared.grammar.CoreExpr.TheOpen.{CoreExpr-F}
use Rattle.ipg_core.specs.declared.grammar.CoreSlot.{CoreSlot}
use Rattle.ipg_core.specs.declared.grammar.CoreTerm.{CoreTerm}
use Rattle.ipg_core.specs.declared.grammar.CoreTerm.TheVariants.{Slot, Set, Test, Repeat, Many, Pick}
use Rattle.ipg_core.specs.declared.grammar.CoreAlt.{CoreAlt}
use Rattle.ipg_core.specs.declared.grammar.CoreRule.{CoreRule}
use Rattle.ipg_core.specs.Grammar.{primitive_number}
use Rattle.ipg_reader.specs.Laws.{short_text, signed_text, counted_text, list_text}

-- ---- symbols, fields and operators

abbrev pub sym_text : Sym → List ℕ
sym_text (Text bytes) = 0 ∷ counted_text bytes
sym_text (Prim prim) = 1 ∷ primitive_number prim ∷ []
sym_text (Rule r) = 2 ∷ short_text r

abbrev pub field_text : CoreField → List ℕ
field_text (Attr attr) = 0 ∷ short_text attr
field_text Start = 1 ∷ []
field_text End = 2 ∷ []

-- the places of the operators in their list
abbrev pub operator_number : Op2 → ℕ
operator_number Add = 0
operator_number Sub = 1
operator_number Mul = 2
operator_number Div = 3
operator_number Mod = 4
operator_number Shl = 5
operator_number Shr = 6
operator_number BitAnd = 7
operator_number BitOr = 8
operator_number BitXor = 9
operator_number Eq = 10
operator_number Ne = 11
operator_number Lt = 12
operator_number Le = 13
operator_number Gt = 14
operator_number Ge = 15

-- ---- expressions

-- one level of an expression, its parts already written
abbrev pub expr_step : CoreExpr-F (List ℕ) → List ℕ
expr_step (CoreExpr-F.Num z) = 0 ∷ signed_text z
expr_step CoreExpr-F.Eoi = 1 ∷ []
expr_step (CoreExpr-F.Own attr) = 2 ∷ short_text attr
expr_step (CoreExpr-F.Outer attr) = 3 ∷ short_text attr
expr_step CoreExpr-F.Loop = 4 ∷ []
expr_step (CoreExpr-F.Seen term sym field) = 5 ∷ (short_text term ++ (sym_text sym ++ field_text field))
expr_step (CoreExpr-F.Item term index field) = 6 ∷ (short_text term ++ (index ++ field_text field))
expr_step (CoreExpr-F.After term left) = 7 ∷ (short_text term ++ left)
expr_step (CoreExpr-F.Neg a) = 8 ∷ a
expr_step (CoreExpr-F.Not a) = 9 ∷ a
expr_step (CoreExpr-F.Two op a b) = 10 ∷ (operator_number op ∷ (a ++ b))
expr_step (CoreExpr-F.Both a b) = 11 ∷ (a ++ b)
expr_step (CoreExpr-F.Either a b) = 12 ∷ (a ++ b)
expr_step (CoreExpr-F.Cond c a b) = 13 ∷ (c ++ (a ++ b))

unfoldable pub expr_text : CoreExpr → List ℕ
expr_text = fold-CoreExpr (List ℕ) expr_step

-- ---- terms, alternatives and rules

abbrev pub slot_text : CoreSlot → List ℕ
slot_text slot = sym_text slot.sym ++ (expr_text slot.from ++ expr_text slot.to)

abbrev pub case_text : CoreExpr × CoreSlot → List ℕ
case_text c = expr_text c.0 ++ slot_text c.1

abbrev pub term_text : CoreTerm → List ℕ
term_text (Slot slot) = 0 ∷ slot_text slot
term_text (Set attr value) = 1 ∷ (short_text attr ++ expr_text value)
term_text (Test cond) = 2 ∷ expr_text cond
term_text (Repeat first last item from to) =
    3 ∷ (expr_text first ++ (expr_text last ++ (sym_text item ++ (expr_text from ++ expr_text to))))
term_text (Pick cases other) = 4 ∷ (list_text case_text cases ++ slot_text other)
term_text (Many item from to) = 5 ∷ (sym_text item ++ (expr_text from ++ expr_text to))

-- the order of the terms isn't written
abbrev pub alt_text : CoreAlt → List ℕ
alt_text alt = list_text term_text alt.terms

abbrev pub holder_text : Option (ℕ × ℕ) → List ℕ
holder_text None = 0 ∷ []
holder_text (Some holder) = 1 ∷ (short_text holder.0 ++ short_text holder.1)

abbrev pub rule_text : CoreRule → List ℕ
rule_text rule = counted_text rule.name ++ (holder_text rule.holder ++ list_text alt_text rule.alts)

-- the names of attributes, and the rules
abbrev pub body_text : List (List ℕ) → List CoreRule → List ℕ
body_text names rules = list_text counted_text names ++ list_text rule_text rules
