-- What a reader of a body finds.
use Rattle.std.specs.Prelude.{ℕ, zero, suc, List, [], ◌∷◌, Option, Some, None, Ok}
use Rattle.std.specs.Int.{w32}
use Rattle.ipg_num.specs.declared.op.Op2.{Op2}
use Rattle.ipg_num.specs.declared.op.Op2.TheVariants.{Add, Sub, Mul, Div, Mod, Shl, Shr, BitAnd, BitOr, BitXor, Eq, Ne, Lt, Le, Gt, Ge}
use Rattle.ipg_core.specs.declared.grammar.Primitive.{Primitive}
use Rattle.ipg_core.specs.declared.grammar.Primitive.TheVariants.{U8, U16LE, U16BE, U32LE, U32BE, U64LE, U64BE, Bytes}
use Rattle.ipg_core.specs.declared.grammar.Sym.{Sym}
use Rattle.ipg_core.specs.declared.grammar.Sym.TheVariants as sym
use Rattle.ipg_core.specs.declared.grammar.CoreField.{CoreField}
use Rattle.ipg_core.specs.declared.grammar.CoreField.TheVariants as field
use Rattle.ipg_core.specs.declared.grammar.CoreExpr.{CoreExpr}
use Rattle.ipg_core.specs.declared.grammar.CoreExpr.TheVariants as expr
use Rattle.ipg_core.specs.declared.grammar.CoreSlot.{CoreSlot}
use Rattle.ipg_core.specs.declared.grammar.CoreTerm.{CoreTerm}
use Rattle.ipg_core.specs.declared.grammar.CoreTerm.TheVariants as term
use Rattle.ipg_core.specs.declared.grammar.CoreAlt.{CoreAlt}
use Rattle.ipg_core.specs.declared.grammar.CoreRule.{CoreRule}
use Rattle.ipg_reader.specs.Found.{Found, tag_at, chain, made, both, number_at, signed_at, text_at, list_at}
use Rattle.ipg_store_body.specs.declared.body.Body.{Body}
use Rattle.ipg_store_body.specs.declared.tag.SymTag.{SymTag}
use Rattle.ipg_store_body.specs.declared.tag.SymTag.TheVariants as sym_tag
use Rattle.ipg_store_body.specs.declared.tag.FieldTag.{FieldTag}
use Rattle.ipg_store_body.specs.declared.tag.FieldTag.TheVariants as field_tag
use Rattle.ipg_store_body.specs.declared.tag.Leaf.{Leaf}
use Rattle.ipg_store_body.specs.declared.tag.Leaf.TheVariants as leaf
use Rattle.ipg_store_body.specs.declared.tag.Node.{Node}
use Rattle.ipg_store_body.specs.declared.tag.Node.TheVariants as node
use Rattle.ipg_store_body.specs.declared.tag.ExprTag.{ExprTag}
use Rattle.ipg_store_body.specs.declared.tag.ExprTag.TheVariants as expr_tag
use Rattle.ipg_store_body.specs.declared.tag.TermTag.{TermTag}
use Rattle.ipg_store_body.specs.declared.tag.TermTag.TheVariants as term_tag
use Rattle.ipg_store_body.specs.declared.tag.HolderTag.{HolderTag}
use Rattle.ipg_store_body.specs.declared.tag.HolderTag.TheVariants as holder_tag

-- ---- the tables of tags

abbrev pub sym_tags : List SymTag
sym_tags = sym_tag.Text ∷ sym_tag.Prim ∷ sym_tag.Rule ∷ []

abbrev pub field_tags : List FieldTag
field_tags = field_tag.Attr ∷ field_tag.Start ∷ field_tag.End ∷ []

abbrev pub leaves : List Leaf
leaves = leaf.Num ∷ leaf.Eoi ∷ leaf.Own ∷ leaf.Outer ∷ leaf.Loop ∷ leaf.Seen ∷ []

abbrev pub expr_tags : List ExprTag
expr_tags =
    expr_tag.Leaf leaf.Num ∷ expr_tag.Leaf leaf.Eoi ∷ expr_tag.Leaf leaf.Own ∷ expr_tag.Leaf leaf.Outer ∷ expr_tag.Leaf leaf.Loop
    ∷ expr_tag.Leaf leaf.Seen ∷ expr_tag.Node node.Item ∷ expr_tag.Node node.After ∷ expr_tag.Node node.Neg ∷ expr_tag.Node node.Not
    ∷ expr_tag.Node node.Two ∷ expr_tag.Node node.Both ∷ expr_tag.Node node.Either ∷ expr_tag.Node node.Cond ∷ []

abbrev pub term_tags : List TermTag
term_tags = term_tag.Slot ∷ term_tag.Set ∷ term_tag.Test ∷ term_tag.Repeat ∷ term_tag.Pick ∷ term_tag.Many ∷ []

abbrev pub holder_tags : List HolderTag
holder_tags = holder_tag.Global ∷ holder_tag.Local ∷ []

abbrev pub primitives : List Primitive
primitives = U8 ∷ U16LE ∷ U16BE ∷ U32LE ∷ U32BE ∷ U64LE ∷ U64BE ∷ Bytes ∷ []

abbrev pub operators : List Op2
operators = Add ∷ Sub ∷ Mul ∷ Div ∷ Mod ∷ Shl ∷ Shr ∷ BitAnd ∷ BitOr ∷ BitXor ∷ Eq ∷ Ne ∷ Lt ∷ Le ∷ Gt ∷ Ge ∷ []

-- ---- symbols and fields

abbrev pub sym_fields : SymTag → List ℕ → Found Sym
sym_fields sym_tag.Text = made sym.Text text_at
sym_fields sym_tag.Prim = made sym.Prim (tag_at primitives)
sym_fields sym_tag.Rule = made sym.Rule (number_at w32)

unfoldable pub sym_at : List ℕ → Found Sym
sym_at = chain (tag_at sym_tags) sym_fields

abbrev pub field_fields : FieldTag → List ℕ → Found CoreField
field_fields field_tag.Attr = made field.Attr (number_at w32)
field_fields field_tag.Start = λ bytes. Ok (field.Start, bytes)
field_fields field_tag.End = λ bytes. Ok (field.End, bytes)

unfoldable pub field_at : List ℕ → Found CoreField
field_at = chain (tag_at field_tags) field_fields

-- ---- expressions

unfoldable pub leaf_fields : Leaf → List ℕ → Found CoreExpr
leaf_fields leaf.Num = made expr.Num signed_at
leaf_fields leaf.Eoi = λ bytes. Ok (expr.Eoi, bytes)
leaf_fields leaf.Own = made expr.Own (number_at w32)
leaf_fields leaf.Outer = made expr.Outer (number_at w32)
leaf_fields leaf.Loop = λ bytes. Ok (expr.Loop, bytes)
leaf_fields leaf.Seen = made (λ x. expr.Seen x.0 x.1.0 x.1.1) (both (number_at w32) (both sym_at field_at))

-- behind the tag of an expression whose parts are read so
unfoldable pub node_fields : (List ℕ → Found CoreExpr) → Node → List ℕ → Found CoreExpr
node_fields part node.Item = made (λ x. expr.Item x.0 x.1.0 x.1.1) (both (number_at w32) (both part field_at))
node_fields part node.After = made (λ x. expr.After x.0 x.1) (both (number_at w32) part)
node_fields part node.Neg = made expr.Neg part
node_fields part node.Not = made expr.Not part
node_fields part node.Two = made (λ x. expr.Two x.0 x.1.0 x.1.1) (both (tag_at operators) (both part part))
node_fields part node.Both = made (λ x. expr.Both x.0 x.1) (both part part)
node_fields part node.Either = made (λ x. expr.Either x.0 x.1) (both part part)
node_fields part node.Cond = made (λ x. expr.Cond x.0 x.1.0 x.1.1) (both part (both part part))

unfoldable pub leaf_at : List ℕ → Found CoreExpr
leaf_at = chain (tag_at leaves) leaf_fields

abbrev pub level_fields : (List ℕ → Found CoreExpr) → ExprTag → List ℕ → Found CoreExpr
level_fields part (expr_tag.Leaf leaf) = leaf_fields leaf
level_fields part (expr_tag.Node node) = node_fields part node

unfoldable pub level_at : (List ℕ → Found CoreExpr) → List ℕ → Found CoreExpr
level_at part = chain (tag_at expr_tags) (level_fields part)

-- with so many levels below its own
unfoldable pub expr_at : ℕ → List ℕ → Found CoreExpr
expr_at zero = leaf_at
expr_at (suc below) = level_at (expr_at below)

abbrev pub whole_expr_at : List ℕ → Found CoreExpr
whole_expr_at = expr_at 399

-- ---- terms, alternatives and rules

unfoldable pub slot_at : List ℕ → Found CoreSlot
slot_at = made (λ x. record { sym = x.0; from = x.1.0; to = x.1.1 }) (both sym_at (both whole_expr_at whole_expr_at))

unfoldable pub case_at : List ℕ → Found (CoreExpr × CoreSlot)
case_at = both whole_expr_at slot_at

unfoldable pub array_at : List ℕ → Found CoreTerm
array_at =
    made (λ x. term.Repeat x.0 x.1.0 x.1.1.0 x.1.1.1.0 x.1.1.1.1)
    (both whole_expr_at (both whole_expr_at (both sym_at (both whole_expr_at whole_expr_at))))

unfoldable pub term_fields : TermTag → List ℕ → Found CoreTerm
term_fields term_tag.Slot = made term.Slot slot_at
term_fields term_tag.Set = made (λ x. term.Set x.0 x.1) (both (number_at w32) whole_expr_at)
term_fields term_tag.Test = made term.Test whole_expr_at
term_fields term_tag.Repeat = array_at
term_fields term_tag.Pick = made (λ x. term.Pick x.0 x.1) (both (list_at case_at) slot_at)
term_fields term_tag.Many = made (λ x. term.Many x.0 x.1.0 x.1.1) (both sym_at (both whole_expr_at whole_expr_at))

unfoldable pub term_at : List ℕ → Found CoreTerm
term_at = chain (tag_at term_tags) term_fields

unfoldable pub alt_at : List ℕ → Found CoreAlt
alt_at = made (λ terms. record { terms = terms; order = [] }) (list_at term_at)

abbrev pub holder_fields : HolderTag → List ℕ → Found (Option (ℕ × ℕ))
holder_fields holder_tag.Global = λ bytes. Ok (None, bytes)
holder_fields holder_tag.Local = made Some (both (number_at w32) (number_at w32))

unfoldable pub holder_at : List ℕ → Found (Option (ℕ × ℕ))
holder_at = chain (tag_at holder_tags) holder_fields

unfoldable pub rule_at : List ℕ → Found CoreRule
rule_at = made (λ x. record { name = x.0; holder = x.1.0; alts = x.1.1 }) (both text_at (both holder_at (list_at alt_at)))

unfoldable pub body_at : List ℕ → Found Body
body_at = made (λ x. record { names = x.0; rules = x.1 }) (both (list_at text_at) (list_at rule_at))
