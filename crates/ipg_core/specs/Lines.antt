-- The printed tree: a line for each node, terminal, number, raw bytes, array and repetition, in preorder.
use Rattle.std.specs.Prelude.{ℕ, ◌+◌, ◌-◌, List, [], ◌∷◌, ◌++◌, map, flat_map, take, length, nat_le, bytes_eq}
use Rattle.std.specs.Prelude.{if◌then◌else◌, decimal, codes, ℤ, Option, Some, None}
use Rattle.std.specs.Fmt.{signed_decimal}
use Rattle.hex.specs.Hex.{encode_lower}
use Rattle.ipg_core.specs.declared.grammar.Primitive.{Primitive}
use Rattle.ipg_core.specs.declared.grammar.Primitive.TheVariants.{U8, U16LE, U16BE, U32LE, U32BE, U64LE, U64BE, Bytes}
use Rattle.ipg_core.specs.declared.grammar.Sym.{Sym}
use Rattle.ipg_core.specs.declared.grammar.Sym.TheVariants.{Text, Prim, Rule}
use Rattle.ipg_core.specs.declared.grammar.CoreRule.{CoreRule}
use Rattle.ipg_core.specs.Grammar.{Grammar, rule_at, name_at}
use Rattle.ipg_core.specs.Tree.{Tree, Node, Kid, Sub, Token, Number, Raw, Array, Many, Kids, no_kids, kid, count_of}

-- words parted by one space, and a line feed
abbrev pub line : List (List ℕ) → List ℕ
line [] = 10 ∷ []
line (word ∷ []) = word ++ 10 ∷ []
line (word ∷ more ∷ words) = word ++ 32 ∷ line (more ∷ words)

-- bytes in hexadecimal, two digits for each; `-` where there are none
abbrev pub hex : List ℕ → List ℕ
hex [] = codes "-"
hex (b ∷ bytes) = encode_lower (b ∷ bytes)

-- the first 32 bytes, and how many more there are
abbrev pub short_hex : List ℕ → List ℕ
short_hex bytes =
    if nat_le (length bytes) 32 then hex bytes
    else hex (take 32 bytes) ++ codes "+" ++ decimal (length bytes - 32)

abbrev pub primitive_name : Primitive → List ℕ
primitive_name U8 = codes "U8"
primitive_name U16LE = codes "U16LE"
primitive_name U16BE = codes "U16BE"
primitive_name U32LE = codes "U32LE"
primitive_name U32BE = codes "U32BE"
primitive_name U64LE = codes "U64LE"
primitive_name U64BE = codes "U64BE"
primitive_name Bytes = codes "Bytes"

-- the primitive that a name is the word of
abbrev pub wide_primitive_of : List ℕ → Option Primitive
wide_primitive_of name =
    if bytes_eq name (primitive_name U64LE) then Some U64LE else
    (if bytes_eq name (primitive_name U64BE) then Some U64BE else
    (if bytes_eq name (primitive_name Bytes) then Some Bytes else None))

abbrev pub primitive_of : List ℕ → Option Primitive
primitive_of name =
    if bytes_eq name (primitive_name U8) then Some U8 else
    (if bytes_eq name (primitive_name U16LE) then Some U16LE else
    (if bytes_eq name (primitive_name U16BE) then Some U16BE else
    (if bytes_eq name (primitive_name U32LE) then Some U32LE else
    (if bytes_eq name (primitive_name U32BE) then Some U32BE else wide_primitive_of name))))

abbrev pub name_of : Option CoreRule → List ℕ
name_of None = []
name_of (Some rule) = rule.name

abbrev pub rule_name : Grammar → ℕ → List ℕ
rule_name g r = name_of (rule_at g r)

-- a terminal is no symbol of an array or a repetition, and has no name
abbrev pub sym_name : Grammar → Sym → List ℕ
sym_name g (Text bytes) = []
sym_name g (Prim prim) = primitive_name prim
sym_name g (Rule r) = rule_name g r

-- a word such as `x=5`
abbrev pub set_word : List ℕ → List ℕ → List ℕ
set_word name value = name ++ codes "=" ++ value

abbrev pub attr_word : Grammar → ℕ × ℤ → List ℕ
attr_word g attr = set_word (name_at g.names attr.0) (signed_decimal attr.1)

-- a number of 64 bits is shown in two halves
abbrev pub number_words : Primitive → ℕ → ℕ → List (List ℕ)
number_words U64LE high low = set_word (codes "hi") (decimal high) ∷ set_word (codes "lo") (decimal low) ∷ []
number_words U64BE high low = set_word (codes "hi") (decimal high) ∷ set_word (codes "lo") (decimal low) ∷ []
number_words prim high low = set_word (codes "val") (decimal low) ∷ []

abbrev pub node_line : Grammar → ℕ → ℕ → ℕ → ℕ → ℕ → ℕ → List (ℕ × ℤ) → List ℕ
node_line g depth at rule size start end attrs =
    line (decimal depth ∷ rule_name g rule ∷ decimal at ∷ decimal (at + size)
    ∷ set_word (codes "start") (decimal (at + start)) ∷ set_word (codes "end") (decimal (at + end))
    ∷ map (attr_word g) attrs)

-- a line of a terminal, a number or raw bytes: depth, kind, ends of the interval, and what is shown of the bytes
abbrev pub leaf_line : ℕ → ℕ → List ℕ → ℕ → ℕ → List (List ℕ) → List ℕ
leaf_line depth at kind from to shown = line (decimal depth ∷ kind ∷ decimal (at + from) ∷ decimal (at + to) ∷ shown)

-- a line of items: depth, kind, symbol and count
abbrev pub items_line : Grammar → ℕ → List ℕ → Sym → Kids → List ℕ
items_line g depth kind sym items = line (decimal depth ∷ kind ∷ sym_name g sym ∷ decimal (count_of items) ∷ [])

-- the lines of a tree whose part begins at an absolute place, of a child and of children whose parent's part does
abbrev mutual
  pub tree_lines : Grammar → ℕ → ℕ → Tree → List (List ℕ)
  tree_lines g depth at (Node rule size attrs start end kids) =
      node_line g depth at rule size start end attrs ∷ kids_lines g (depth + 1) at kids

  pub kid_lines : Grammar → ℕ → ℕ → Kid → List (List ℕ)
  kid_lines g depth at (Sub from to tree) = tree_lines g depth (at + from) tree
  kid_lines g depth at (Token from to bytes) = leaf_line depth at (codes "tok") from to (hex bytes ∷ []) ∷ []
  kid_lines g depth at (Number from to prim high low) =
      leaf_line depth at (primitive_name prim) from to (number_words prim high low) ∷ []
  kid_lines g depth at (Raw from to bytes) = leaf_line depth at (codes "Bytes") from to (short_hex bytes ∷ []) ∷ []
  kid_lines g depth at (Array sym items) = items_line g depth (codes "for") sym items ∷ kids_lines g (depth + 1) at items
  kid_lines g depth at (Many sym items) = items_line g depth (codes "many") sym items ∷ kids_lines g (depth + 1) at items

  pub kids_lines : Grammar → ℕ → ℕ → Kids → List (List ℕ)
  kids_lines g depth at no_kids = []
  kids_lines g depth at (kid k ks) = kid_lines g depth at k ++ kids_lines g depth at ks

-- the text of a tree
abbrev pub lines : Grammar → Tree → ℕ → List ℕ
lines g tree at = flat_map (λ l. l) (tree_lines g 0 at tree)
