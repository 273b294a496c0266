-- What an expression is evaluated in: the values and results that stand when it is.
use Rattle.std.specs.Prelude.{ℕ, List, [], ◌∷◌, Option, Some, None, Bool, ℤ, pos, nat_eq, if◌then◌else◌, slice_get, bytes_eq, codes, not, ◌||◌}
use Rattle.ipg_core.specs.declared.grammar.Primitive.{Primitive}
use Rattle.ipg_core.specs.declared.grammar.Primitive.TheVariants.{U8, U16LE, U16BE, U32LE, U32BE, U64LE, U64BE, Bytes}
use Rattle.ipg_core.specs.declared.grammar.CoreField.{CoreField}
use Rattle.ipg_core.specs.declared.grammar.CoreField.TheVariants.{Attr, Start, End}
use Rattle.ipg_core.specs.declared.grammar.Sym.{Sym}
use Rattle.ipg_core.specs.Grammar.{name_at, same_sym, is_text}
use Rattle.ipg_core.specs.Tree.{Kid, Sub, Token, Number, Raw, Array, Many, Kids, no_kids, items_of, sym_of, attrs_of}
use Rattle.ipg_core.specs.Touch.{ends_of}

-- attributes with their values, the first entry of a name counting
abbrev pub Values : Type 0
Values = List (ℕ × ℤ)

abbrev pub value_at : Values → ℕ → Option ℤ
value_at [] a = None
value_at (v ∷ vs) a = if nat_eq v.0 a then Some v.1 else value_at vs a

-- the result of a term that has run: what it parsed, and whether the term is a switch
pub record Done : Type 0 where
  pub is_switch : Bool
  pub kid : Kid

pub record Environment : Type 0 where
  -- the length of the part at hand
  pub eoi : ℕ
  -- the attributes set so far, and those of the holder
  pub own : Values
  pub outer : Values
  -- the loop variable
  pub item : Option ℤ
  -- the results of terms, by the terms' numbers
  pub done : List (Option Done)
  -- the names of attributes, by their numbers
  pub names : List (List ℕ)

abbrev pub if_done : Option (Option Done) → Option Done
if_done None = None
if_done (Some d) = d

abbrev pub done_at : List (Option Done) → ℕ → Option Done
done_at done term = if_done (slice_get done term)

-- the items of an array or a repetition so far, which are none before it has begun
abbrev pub items_so_far : Option Done → Kids
items_so_far None = no_kids
items_so_far (Some d) = items_of d.kid

-- an attribute of a number, by its name
abbrev pub half_of : List ℕ → ℕ → ℕ → Option ℤ
half_of name high low =
    if bytes_eq name (codes "hi") then Some (pos high)
    else if bytes_eq name (codes "lo") then Some (pos low)
    else None

abbrev pub whole_of : List ℕ → ℕ → Option ℤ
whole_of name low = if bytes_eq name (codes "val") then Some (pos low) else None

abbrev pub number_attr : Primitive → List ℕ → ℕ → ℕ → Option ℤ
number_attr U8 name high low = whole_of name low
number_attr U16LE name high low = whole_of name low
number_attr U16BE name high low = whole_of name low
number_attr U32LE name high low = whole_of name low
number_attr U32BE name high low = whole_of name low
number_attr U64LE name high low = half_of name high low
number_attr U64BE name high low = half_of name high low
number_attr Bytes name high low = None

-- an attribute of what was parsed
abbrev pub attr_of : List (List ℕ) → ℕ → Kid → Option ℤ
attr_of names a (Sub from to tree) = value_at (attrs_of tree) a
attr_of names a (Token from to bytes) = None
attr_of names a (Number from to prim high low) = number_attr prim (name_at names a) high low
attr_of names a (Raw from to bytes) = None
attr_of names a (Array sym items) = None
attr_of names a (Many sym items) = None

-- a field of what was parsed, places being those of the parent's part; an array or a repetition has none
abbrev pub field_of : List (List ℕ) → CoreField → Kid → Option ℤ
field_of names field (Array sym items) = None
field_of names field (Many sym items) = None
field_of names (Attr a) k = attr_of names a k
field_of names Start k = Some (pos (ends_of k).start)
field_of names End k = Some (pos (ends_of k).end)

-- a reference by this symbol may read the result: of a switch it names the branch that was taken, or any branch where it is a string; of
-- another term nothing is asked
abbrev pub is_read_by : Done → Sym → Bool
is_read_by d sym = not d.is_switch || is_text sym || same_sym sym (sym_of d.kid)

abbrev pub seen : List (List ℕ) → Sym → CoreField → Option Done → Option ℤ
seen names sym field None = None
seen names sym field (Some d) = if is_read_by d sym then field_of names field d.kid else None

abbrev pub field_of_item : List (List ℕ) → CoreField → Option Kid → Option ℤ
field_of_item names field None = None
field_of_item names field (Some k) = field_of names field k
