-- What variables stand for: whose part or alternative, and what of it.
use Rattle.std.specs.Prelude.{◌≡◌, ℕ, List, Bool, true, false, nat_eq, bytes_eq, ◌&&◌, Decides}
use Rattle.std.specs.Ordering.{int_eq}
use Rattle.ipg_num.specs.declared.op.Op2.{Op2}
use Rattle.ipg_num.specs.declared.op.Op2.TheVariants.{Add, Sub, Mul, Div, Mod, Shl, Shr, BitAnd, BitOr, BitXor, Eq, Ne, Lt, Le, Gt, Ge}
use Rattle.ipg_core.specs.declared.grammar.CoreField.{CoreField}
use Rattle.ipg_core.specs.declared.grammar.CoreField.TheVariants as fields
use Rattle.ipg_core.specs.declared.grammar.Sym.{Sym}
use Rattle.ipg_core.specs.declared.grammar.Sym.TheVariants.{Text, Prim, Rule}
use Rattle.ipg_core.specs.declared.grammar.CoreExpr.{CoreExpr, fold-CoreExpr, out-CoreExpr}
use Rattle.ipg_core.specs.declared.grammar.CoreExpr.TheOpen.{CoreExpr-F}
use Rattle.ipg_core.specs.Grammar.{primitive_number, name_at}
use Rattle.ipg_facts_variables.specs.declared.variable.Side.{Side}
use Rattle.ipg_facts_variables.specs.declared.variable.Side.TheVariants.{Caller, Holder, Point}
use Rattle.ipg_facts_variables.specs.declared.variable.Quantity.{Quantity}
use Rattle.ipg_facts_variables.specs.declared.variable.Quantity.TheVariants.{Whole, Attribute, Loop, Start, End, Named, Value}
pub use Rattle.ipg_facts_variables.specs.declared.variable.Variable.{Variable}

-- the alternative of the edge's caller, and that of its holder
abbrev pub caller_side : Side
caller_side = Caller

abbrev pub holder_side : Side
holder_side = Holder

-- the length of the side's part
abbrev pub whole : Side → Variable
whole side = record { side = side; of = Whole }

-- an attribute that the side's alternative sets
abbrev pub attribute : Side → ℕ → Variable
attribute side a = record { side = side; of = Attribute a }

-- the loop variable
abbrev pub loop : Side → Variable
loop side = record { side = side; of = Loop }

-- a field of the result of a slot or a switch, an attribute by its name
abbrev pub start : Side → ℕ → Variable
start side term = record { side = side; of = Start term }

abbrev pub end : Side → ℕ → Variable
end side term = record { side = side; of = End term }

abbrev pub named : Side → ℕ → List ℕ → Variable
named side term name = record { side = side; of = Named term name }

abbrev pub field : List (List ℕ) → Side → ℕ → CoreField → Variable
field names side term (fields.Attr a) = named side term (name_at names a)
field names side term fields.Start = start side term
field names side term fields.End = end side term

-- the value of an expression
abbrev pub value : Side → CoreExpr → Variable
value side e = record { side = side; of = Value e }

abbrev pub operator_number : Op2 → ℕ
operator_number Add = 0
operator_number Sub = 1
operator_number Mul = 2
operator_number Div = 3
operator_number Mod = 4
operator_number Shl = 5
operator_number Shr = 6
operator_number BitAnd = 7
operator_number BitOr = 8
operator_number BitXor = 9
operator_number Eq = 10
operator_number Ne = 11
operator_number Lt = 12
operator_number Le = 13
operator_number Gt = 14
operator_number Ge = 15

abbrev pub same_operator : Op2 → Op2 → Bool
same_operator a b = nat_eq (operator_number a) (operator_number b)

abbrev pub same_field : CoreField → CoreField → Bool
same_field (fields.Attr a) (fields.Attr b) = nat_eq a b
same_field fields.Start fields.Start = true
same_field fields.End fields.End = true
same_field _ _ = false

abbrev pub same_sym : Sym → Sym → Bool
same_sym (Text a) (Text b) = bytes_eq a b
same_sym (Prim a) (Prim b) = nat_eq (primitive_number a) (primitive_number b)
same_sym (Rule a) (Rule b) = nat_eq a b
same_sym _ _ = false

-- an expression, of whose parts it is known which expressions they are, and another
abbrev pub same_layer : CoreExpr-F (CoreExpr → Bool) → CoreExpr-F CoreExpr → Bool
same_layer (CoreExpr-F.Num x) (CoreExpr-F.Num y) = int_eq x y
same_layer CoreExpr-F.Eoi CoreExpr-F.Eoi = true
same_layer (CoreExpr-F.Own a) (CoreExpr-F.Own b) = nat_eq a b
same_layer (CoreExpr-F.Outer a) (CoreExpr-F.Outer b) = nat_eq a b
same_layer CoreExpr-F.Loop CoreExpr-F.Loop = true
same_layer (CoreExpr-F.Seen t s f) (CoreExpr-F.Seen u r g) = nat_eq t u && (same_sym s r && same_field f g)
same_layer (CoreExpr-F.Item t i f) (CoreExpr-F.Item u j g) = nat_eq t u && (same_field f g && i j)
same_layer (CoreExpr-F.After t l) (CoreExpr-F.After u m) = nat_eq t u && l m
same_layer (CoreExpr-F.Neg a) (CoreExpr-F.Neg b) = a b
same_layer (CoreExpr-F.Not a) (CoreExpr-F.Not b) = a b
same_layer (CoreExpr-F.Two o a b) (CoreExpr-F.Two p c d) = same_operator o p && (a c && b d)
same_layer (CoreExpr-F.Both a b) (CoreExpr-F.Both c d) = a c && b d
same_layer (CoreExpr-F.Either a b) (CoreExpr-F.Either c d) = a c && b d
same_layer (CoreExpr-F.Cond c a b) (CoreExpr-F.Cond d e f) = c d && (a e && b f)
same_layer _ _ = false

-- an expression is another
unfoldable pub same_expr : CoreExpr → CoreExpr → Bool
same_expr = fold-CoreExpr (CoreExpr → Bool) (λ layer other. same_layer layer (out-CoreExpr other))

abbrev pub same_side : Side → Side → Bool
same_side Caller Caller = true
same_side Holder Holder = true
same_side Point Point = true
same_side _ _ = false

abbrev pub same_quantity : Quantity → Quantity → Bool
same_quantity Whole Whole = true
same_quantity (Attribute a) (Attribute b) = nat_eq a b
same_quantity Loop Loop = true
same_quantity (Start t) (Start u) = nat_eq t u
same_quantity (End t) (End u) = nat_eq t u
same_quantity (Named t n) (Named u m) = nat_eq t u && bytes_eq n m
same_quantity (Value e) (Value f) = same_expr e f
same_quantity _ _ = false

-- a variable is another
unfoldable pub same_variable : Variable → Variable → Bool
same_variable a b = same_side a.side b.side && same_quantity a.of b.of

-- which says that they are equal
abbrev pub SameVariablesAreEqual : Type 0
SameVariablesAreEqual = (a b : Variable) → Decides (same_variable a b) (a ≡ b)
