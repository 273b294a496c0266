-- What an expression reads of a term, where it reads that and nothing else.
use Rattle.std.specs.Prelude.{ℕ, List, Option, Some, None, Bool, false, ◌&&◌, nat_eq, bytes_eq, if◌then◌else◌, codes, ℤ, pos}
use Rattle.std.specs.Ordering.{int_eq}
use Rattle.ipg_num.specs.declared.op.Op2.{Op2}
use Rattle.ipg_num.specs.declared.op.Op2.TheVariants.{Add, Sub, Mul, Div, Mod, Shl, Shr, BitAnd, BitOr, BitXor, Eq, Ne, Lt, Le, Gt, Ge}
use Rattle.ipg_core.specs.declared.grammar.CoreField.{CoreField}
use Rattle.ipg_core.specs.declared.grammar.CoreField.TheVariants.{Attr, Start, End}
use Rattle.ipg_core.specs.declared.grammar.Sym.{Sym}
use Rattle.ipg_core.specs.declared.grammar.Sym.TheVariants.{Text, Prim, Rule}
use Rattle.ipg_core.specs.declared.grammar.CoreExpr.{CoreExpr, out-CoreExpr}
use Rattle.ipg_core.specs.declared.grammar.CoreExpr.TheOpen.{CoreExpr-F}
use Rattle.ipg_core.specs.Grammar.{name_at}
use Rattle.ipg_label.specs.declared.reading.What.{What}
use Rattle.ipg_label.specs.declared.reading.What.TheVariants.{Number, Part, Joined}
use Rattle.ipg_label.specs.declared.reading.Reading.{Reading}

-- the bare layer of an expression
abbrev pub Layer : Type 0
Layer = CoreExpr-F CoreExpr

abbrev pub reads : ℕ → What → Reading
reads term what = record { term = term; what = what }

-- an attribute of a number or of a part; where something begins or ends is no value of it
abbrev pub field_read : ℕ → Sym → CoreField → Option Reading
field_read term (Prim prim) (Attr a) = Some (reads term (Number a))
field_read term (Rule r) (Attr a) = Some (reads term (Part a))
field_read term _ _ = None

-- ---- both halves of a number of 64 bits, put together

abbrev pub half_at : List (List ℕ) → List ℕ → ℕ → Sym → CoreField → Option ℕ
half_at names word term (Prim prim) (Attr a) = if bytes_eq (name_at names a) word then Some term else None
half_at names word term _ _ = None

-- the term of whose number this is the half of that name
abbrev pub half : List (List ℕ) → List ℕ → Layer → Option ℕ
half names word (CoreExpr-F.Seen term sym field) = half_at names word term sym field
half names word _ = None

abbrev pub upper : List (List ℕ) → Layer → Option ℕ
upper names e = half names (codes "hi") e

abbrev pub lower : List (List ℕ) → Layer → Option ℕ
lower names e = half names (codes "lo") e

abbrev pub is_number : ℤ → Layer → Bool
is_number z (CoreExpr-F.Num value) = int_eq value z
is_number z _ = false

-- both are of one term
abbrev pub same_term : Option ℕ → Option ℕ → Option ℕ
same_term (Some t) (Some u) = if nat_eq t u then Some t else None
same_term _ _ = None

abbrev pub only_if : Bool → Option ℕ → Option ℕ
only_if b found = if b then found else None

-- the upper half is less than 2^31
abbrev pub is_small : List (List ℕ) → Layer → Option ℕ
is_small names (CoreExpr-F.Two Lt a b) = only_if (is_number (pos 2147483648) (out-CoreExpr b)) (upper names (out-CoreExpr a))
is_small names _ = None

-- the upper half less 2^32
abbrev pub less : List (List ℕ) → Layer → Option ℕ
less names (CoreExpr-F.Two Sub a b) = only_if (is_number (pos 4294967296) (out-CoreExpr b)) (upper names (out-CoreExpr a))
less names _ = None

-- the upper half, as it is or with a sign: `T.hi`, `T.hi < 2^31 ? T.hi : T.hi - 2^32`
abbrev pub signed : List (List ℕ) → Layer → Option ℕ
signed names (CoreExpr-F.Seen term sym field) = half_at names (codes "hi") term sym field
signed names (CoreExpr-F.Cond c a b) =
    same_term (is_small names (out-CoreExpr c)) (same_term (upper names (out-CoreExpr a)) (less names (out-CoreExpr b)))
signed names _ = None

-- 2^32 times that
abbrev pub scaled : List (List ℕ) → Layer → Option ℕ
scaled names (CoreExpr-F.Two Mul a b) = only_if (is_number (pos 4294967296) (out-CoreExpr b)) (signed names (out-CoreExpr a))
scaled names _ = None

abbrev pub joined_read : Option ℕ → Option Reading
joined_read None = None
joined_read (Some term) = Some (reads term Joined)

-- ---- an expression

abbrev pub read : List (List ℕ) → Layer → Option Reading
read names (CoreExpr-F.Seen term sym field) = field_read term sym field
read names (CoreExpr-F.Two Add a b) = joined_read (same_term (scaled names (out-CoreExpr a)) (lower names (out-CoreExpr b)))
read names _ = None
