-- What an expression is to the conditions: a linear form, and the facts that it is true (other than 0) and that it is false.
use Rattle.std.specs.Prelude.{ℕ, List, [], ◌++◌, Option, Some, None, Bool, pos, negsuc, slice_get, bytes_eq, codes, if◌then◌else◌, nat_lt}
use Rattle.ipg_num.specs.declared.op.Op2.{Op2}
use Rattle.ipg_num.specs.declared.op.Op2.TheVariants.{Add, Sub, Mul, Div, Mod, Shl, Shr, BitAnd, BitOr, BitXor, Eq, Ne, Lt, Le, Gt, Ge}
use Rattle.ipg_core.specs.declared.grammar.Primitive.{Primitive}
use Rattle.ipg_core.specs.declared.grammar.Primitive.TheVariants.{U8, U16LE, U16BE, U32LE, U32BE, U64LE, U64BE, Bytes}
use Rattle.ipg_core.specs.declared.grammar.CoreField.{CoreField}
use Rattle.ipg_core.specs.declared.grammar.CoreField.TheVariants.{Attr, Start, End}
use Rattle.ipg_core.specs.declared.grammar.Sym.{Sym}
use Rattle.ipg_core.specs.declared.grammar.Sym.TheVariants.{Text, Prim, Rule}
use Rattle.ipg_core.specs.declared.grammar.CoreExpr.{CoreExpr, fold-CoreExpr, roll-CoreExpr}
use Rattle.ipg_core.specs.declared.grammar.CoreExpr.TheOpen.{CoreExpr-F}
use Rattle.ipg_core.specs.declared.grammar.CoreTerm.{CoreTerm}
use Rattle.ipg_core.specs.declared.grammar.CoreTerm.TheVariants.{Slot, Set, Test, Repeat, Many, Pick}
use Rattle.ipg_core.specs.Grammar.{name_at}
use Rattle.ipg_core.specs.Touch.{width}
use Rattle.ipg_core.specs.MustTouch.{is_marked}
use Rattle.ipg_facts_forms.specs.declared.fact.Form.{Form}
use Rattle.ipg_facts_forms.specs.declared.fact.Fact.{Fact}
use Rattle.ipg_facts.specs.declared.bounds.Bounds.{Bounds}
use Rattle.ipg_facts.specs.declared.edition.Edition.{Edition}
use Rattle.ipg_facts.specs.declared.edition.Edition.TheVariants.{Earlier, Later}
use Rattle.ipg_facts_variables.specs.declared.variable.Side.{Side}
use Rattle.ipg_facts_variables.specs.Variable.{whole, attribute, loop, field, value, holder_side}
use Rattle.ipg_facts_forms.specs.Form.{mention, number, plus, minus, scaled, shifted, is_constant, in_limits, leq, less, equal, differ, choice}

-- an alternative whose expressions are read
pub record Scope : Type 0 where
  -- how much is known of its terms
  pub edition : Edition
  -- the caller's or the holder's
  pub side : Side
  -- the names of attributes, by their numbers, and which rules must touch
  pub names : List (List ℕ)
  pub marks : List Bool
  pub terms : List CoreTerm
  -- the bounds of the arrays that have run, by their terms
  pub arrays : List (Option Bounds)

pub record Reading : Type 0 where
  -- the expression itself
  pub said : CoreExpr
  pub form : Form
  pub holds : List Fact
  pub fails : List Fact

abbrev pub length_of : Scope → Form
length_of scope = mention (whole scope.side) []

-- a variable without facts, known by the expression
abbrev pub opaque : Scope → CoreExpr → Form
opaque scope said = mention (value scope.side said) []

abbrev pub nought : Form
nought = number (pos 0)

-- an expression that is no comparison is true where it isn't 0
unfoldable pub plain : CoreExpr → Form → Reading
plain said form = record { said = said; form = form; holds = differ form nought; fails = equal form nought }

-- the bytes that an item touches at least: a number its width, a rule that must touch one
abbrev pub least_width : List Bool → Option Sym → ℕ
least_width marks None = 0
least_width marks (Some (Text bytes)) = 0
least_width marks (Some (Prim prim)) = width prim
least_width marks (Some (Rule r)) = if is_marked marks r then 1 else 0

abbrev pub item_of : Option CoreTerm → Option Sym
item_of None = None
item_of (Some (Slot slot)) = None
item_of (Some (Set attr e)) = None
item_of (Some (Test e)) = None
item_of (Some (Repeat first last item from to)) = Some item
item_of (Some (Many item from to)) = Some item
item_of (Some (Pick cases other)) = None

abbrev pub item_at : Scope → ℕ → Option Sym
item_at scope term = item_of (slice_get scope.terms term)

abbrev pub whole_greatest : ℕ → List ℕ → Option ℕ
whole_greatest n name = if bytes_eq name (codes "val") then Some n else None

abbrev pub half_greatest : List ℕ → Option ℕ
half_greatest name =
    if bytes_eq name (codes "hi") then Some 4294967295
    else if bytes_eq name (codes "lo") then Some 4294967295
    else None

-- the greatest value of a number's attribute
abbrev pub greatest : Primitive → List ℕ → Option ℕ
greatest U8 name = whole_greatest 255 name
greatest U16LE name = whole_greatest 65535 name
greatest U16BE name = whole_greatest 65535 name
greatest U32LE name = whole_greatest 4294967295 name
greatest U32BE name = whole_greatest 4294967295 name
greatest U64LE name = half_greatest name
greatest U64BE name = half_greatest name
greatest Bytes name = None

abbrev pub greatest_of : Option Sym → List ℕ → Option ℕ
greatest_of None name = None
greatest_of (Some (Text bytes)) name = None
greatest_of (Some (Prim prim)) name = greatest prim name
greatest_of (Some (Rule r)) name = None

-- v is from 0 to the greatest value
unfoldable pub ranges : Form → Option ℕ → List Fact
ranges v None = []
ranges v (Some n) = leq nought v ++ leq v (number (pos n))

-- what is known of a field v of an item that touches w bytes at least
unfoldable pub item_facts : Scope → Option Sym → CoreField → Form → List Fact
item_facts scope item (Attr a) v = ranges v (greatest_of item (name_at scope.names a))
item_facts scope item Start v = leq nought v ++ leq (shifted v (pos (least_width scope.marks item))) (length_of scope)
item_facts scope item End v = leq (number (pos (least_width scope.marks item))) v ++ leq v (length_of scope)

-- what the earlier conditions leave out
abbrev pub if_later : Edition → List Fact → List Fact
if_later Earlier facts = []
if_later Later facts = facts

-- some item touches: v is a place behind a byte of the part
unfoldable pub inside : Scope → Form → List Fact
inside scope v = leq (number (pos 1)) v ++ leq v (length_of scope)

abbrev pub if_there : Option (Option Bounds) → Option Bounds
if_there None = None
if_there (Some bounds) = bounds

-- the bounds of an array that has run and each of whose items touches
abbrev pub touching : Scope → ℕ → Option Bounds
touching scope term = if nat_lt 0 (least_width scope.marks (item_at scope term)) then if_there (slice_get scope.arrays term) else None

-- what is known of the place v behind the items, else behind `left`
unfoldable pub after_facts : Scope → Option Bounds → Form → Form → List Fact
after_facts scope None v left = choice (inside scope v) (equal v left)
after_facts scope (Some bounds) v left =
    choice (less bounds.first bounds.last ++ inside scope v) (leq bounds.last bounds.first ++ equal v left)

-- a product is linear where one side is a number; variables that cancel in that side keep their places
unfoldable pub product : Form → Form → Option Form
product a b =
    if is_constant a then Some (plus (scaled (pos 0) a) (scaled a.constant b))
    else if is_constant b then Some (plus (scaled b.constant a) (scaled (pos 0) b))
    else None

unfoldable pub computed : Op2 → Form → Form → Option Form
computed Add a b = Some (plus a b)
computed Sub a b = Some (minus a b)
computed Mul a b = product a b
computed Div a b = None
computed Mod a b = None
computed Shl a b = None
computed Shr a b = None
computed BitAnd a b = None
computed BitOr a b = None
computed BitXor a b = None
computed Eq a b = None
computed Ne a b = None
computed Lt a b = None
computed Le a b = None
computed Gt a b = None
computed Ge a b = None

-- a form that leaves the limits is opaque
unfoldable pub limited : Scope → CoreExpr → Option Form → Form
limited scope said None = opaque scope said
limited scope said (Some a) = if in_limits a then a else opaque scope said

unfoldable pub asserted : Op2 → Form → Form → Form → List Fact
asserted Eq a b e = equal a b
asserted Ne a b e = differ a b
asserted Lt a b e = less a b
asserted Le a b e = leq a b
asserted Gt a b e = less b a
asserted Ge a b e = leq b a
asserted _ a b e = differ e nought

unfoldable pub denied : Op2 → Form → Form → Form → List Fact
denied Eq a b e = differ a b
denied Ne a b e = equal a b
denied Lt a b e = leq b a
denied Le a b e = less b a
denied Gt a b e = leq a b
denied Ge a b e = less a b
denied _ a b e = equal e nought

-- one expression, each part of it already read
unfoldable pub reading : Scope → CoreExpr-F Reading → Reading
reading scope (CoreExpr-F.Num z) = plain (roll-CoreExpr (CoreExpr-F.Num z)) (number z)
reading scope CoreExpr-F.Eoi = plain (roll-CoreExpr CoreExpr-F.Eoi) (length_of scope)
reading scope (CoreExpr-F.Own a) = plain (roll-CoreExpr (CoreExpr-F.Own a)) (mention (attribute scope.side a) [])
reading scope (CoreExpr-F.Outer a) = plain (roll-CoreExpr (CoreExpr-F.Outer a)) (mention (attribute holder_side a) [])
reading scope CoreExpr-F.Loop = plain (roll-CoreExpr CoreExpr-F.Loop) (mention (loop scope.side) [])
reading scope (CoreExpr-F.Seen term sym f) =
    plain (roll-CoreExpr (CoreExpr-F.Seen term sym f)) (mention (field scope.names scope.side term f) [])
reading scope (CoreExpr-F.Item term index f) =
    let said = roll-CoreExpr (CoreExpr-F.Item term index.said f) in
    plain said (mention (value scope.side said) (if_later scope.edition (item_facts scope (item_at scope term) f (opaque scope said))))
reading scope (CoreExpr-F.After term left) =
    let said = roll-CoreExpr (CoreExpr-F.After term left.said) in
    plain said (mention (value scope.side said) (after_facts scope (touching scope term) (opaque scope said) left.form))
reading scope (CoreExpr-F.Neg a) =
    let said = roll-CoreExpr (CoreExpr-F.Neg a.said) in
    plain said (limited scope said (Some (scaled (negsuc 0) a.form)))
reading scope (CoreExpr-F.Not a) =
    let said = roll-CoreExpr (CoreExpr-F.Not a.said) in
    record { said = said; form = opaque scope said; holds = a.fails; fails = a.holds }
reading scope (CoreExpr-F.Two op a b) =
    let said = roll-CoreExpr (CoreExpr-F.Two op a.said b.said) in
    let form = limited scope said (computed op a.form b.form) in
    record { said = said; form = form; holds = asserted op a.form b.form form; fails = denied op a.form b.form form }
reading scope (CoreExpr-F.Both a b) =
    let said = roll-CoreExpr (CoreExpr-F.Both a.said b.said) in
    record { said = said; form = opaque scope said; holds = a.holds ++ b.holds; fails = choice a.fails (a.holds ++ b.fails) }
reading scope (CoreExpr-F.Either a b) =
    let said = roll-CoreExpr (CoreExpr-F.Either a.said b.said) in
    record { said = said; form = opaque scope said; holds = choice a.holds (a.fails ++ b.holds); fails = a.fails ++ b.fails }
reading scope (CoreExpr-F.Cond c a b) =
    let said = roll-CoreExpr (CoreExpr-F.Cond c.said a.said b.said) in
    let v = opaque scope said in
    record {
      said = said;
      form = mention (value scope.side said) (choice (c.holds ++ equal v a.form) (c.fails ++ equal v b.form));
      holds = choice (c.holds ++ a.holds) (c.fails ++ b.holds);
      fails = choice (c.holds ++ a.fails) (c.fails ++ b.fails);
    }

unfoldable pub read : Scope → CoreExpr → Reading
read scope = fold-CoreExpr Reading (reading scope)

abbrev pub form : Scope → CoreExpr → Form
form scope e = (read scope e).form
