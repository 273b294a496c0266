-- What a variable feeds the hash of the table of variables: variables that are equal feed alike, and few others do.
use Rattle.std.specs.Prelude.{ℕ, [], ◌+◌, ◌*◌, ◌++◌}
use Rattle.std.specs.Hash as fed
use Rattle.std.specs.Hash.{HashWrites}
use Rattle.ipg_core.specs.declared.grammar.CoreField.{CoreField}
use Rattle.ipg_core.specs.declared.grammar.CoreField.TheVariants as fields
use Rattle.ipg_core.specs.declared.grammar.CoreExpr.{CoreExpr, fold-CoreExpr}
use Rattle.ipg_core.specs.declared.grammar.CoreExpr.TheOpen.{CoreExpr-F}
use Rattle.ipg_facts_variables.specs.declared.variable.Side.{Side}
use Rattle.ipg_facts_variables.specs.declared.variable.Side.TheVariants.{Caller, Holder, Point}
use Rattle.ipg_facts_variables.specs.declared.variable.Quantity.{Quantity}
use Rattle.ipg_facts_variables.specs.declared.variable.Quantity.TheVariants.{Whole, Attribute, Loop, Start, End, Named, Value}
use Rattle.ipg_facts_variables.specs.declared.variable.Variable.{Variable}
use Rattle.ipg_facts_variables.specs.Variable.{operator_number}

-- a kind, below 16, and a number of 32 bits
abbrev pub fed_kind : ℕ → ℕ → HashWrites
fed_kind kind number = fed.u64 (number * 16 + kind)

abbrev pub fed_field : CoreField → HashWrites
fed_field (fields.Attr a) = fed_kind 0 a
fed_field fields.Start = fed_kind 1 0
fed_field fields.End = fed_kind 2 0

-- an expression without those in it
abbrev pub fed_head : {A : Type 0} → CoreExpr-F A → HashWrites
fed_head (CoreExpr-F.Num z) = fed.i64 z
fed_head CoreExpr-F.Eoi = fed_kind 2 0
fed_head (CoreExpr-F.Own a) = fed_kind 3 a
fed_head (CoreExpr-F.Outer a) = fed_kind 4 a
fed_head CoreExpr-F.Loop = fed_kind 5 0
fed_head (CoreExpr-F.Seen term sym field) = fed_kind 6 term ++ fed_field field
fed_head (CoreExpr-F.Item term index field) = fed_kind 7 term ++ fed_field field
fed_head (CoreExpr-F.After term left) = fed_kind 8 term
fed_head (CoreExpr-F.Neg a) = fed_kind 9 0
fed_head (CoreExpr-F.Not a) = fed_kind 10 0
fed_head (CoreExpr-F.Two op a b) = fed_kind 11 (operator_number op)
fed_head (CoreExpr-F.Both a b) = fed_kind 12 0
fed_head (CoreExpr-F.Either a b) = fed_kind 13 0
fed_head (CoreExpr-F.Cond c a b) = fed_kind 14 0

-- those in it
abbrev pub fed_parts : CoreExpr-F HashWrites → HashWrites
fed_parts (CoreExpr-F.Item term index field) = index
fed_parts (CoreExpr-F.After term left) = left
fed_parts (CoreExpr-F.Neg a) = a
fed_parts (CoreExpr-F.Not a) = a
fed_parts (CoreExpr-F.Two op a b) = a ++ b
fed_parts (CoreExpr-F.Both a b) = a ++ b
fed_parts (CoreExpr-F.Either a b) = a ++ b
fed_parts (CoreExpr-F.Cond c a b) = c ++ (a ++ b)
fed_parts _ = []

abbrev pub fed_layer : CoreExpr-F HashWrites → HashWrites
fed_layer y = fed_head y ++ fed_parts y

unfoldable pub fed_expr : CoreExpr → HashWrites
fed_expr = fold-CoreExpr HashWrites fed_layer

abbrev pub side_number : Side → ℕ
side_number Caller = 0
side_number Holder = 1
side_number Point = 2

abbrev pub fed_quantity : Quantity → HashWrites
fed_quantity Whole = fed_kind 0 0
fed_quantity (Attribute a) = fed_kind 1 a
fed_quantity Loop = fed_kind 2 0
fed_quantity (Start term) = fed_kind 3 term
fed_quantity (End term) = fed_kind 4 term
fed_quantity (Named term name) = fed_kind 5 term ++ fed.slice fed.u8 name
fed_quantity (Value e) = fed_expr e

unfoldable pub fed_variable : Variable → HashWrites
fed_variable variable = fed_kind 15 (side_number variable.side) ++ fed_quantity variable.of
