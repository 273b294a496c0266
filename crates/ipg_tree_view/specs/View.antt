-- The tree beside the bytes: a line has a place, up to 16 bytes as digits and as characters, and what of the tree they are.
use Rattle.std.specs.Prelude.{ℕ, ◌+◌, ◌-◌, ◌*◌, ◌%◌, ◌^◌, min, List, [], ◌∷◌, ◌++◌, map, flat_map, take, drop, length, replicate, decimal, codes, ℤ}
use Rattle.std.specs.Prelude.{Bool, ◌&&◌, nat_le, nat_lt, if◌then◌else◌, None}
use Rattle.std.specs.Int.{w32, to_be_bytes}
use Rattle.hex.specs.Hex.{encode_lower}
use Rattle.ipg_core.specs.declared.grammar.Sym.{Sym}
use Rattle.ipg_core.specs.Grammar.{Grammar}
use Rattle.ipg_core.specs.Lines.{primitive_name, rule_name, sym_name, attr_word}
use Rattle.ipg_core.specs.Part.{part}
use Rattle.ipg_core.specs.Touch.{width}
use Rattle.ipg_core.specs.Tree.{Tree, Node, Kid, Sub, Token, Number, Raw, Array, Many, Kids, count_of}
use Rattle.ipg_tree_walk.specs.Visits.{Seen, visits}
use Rattle.ipg_tree.specs.Words.{spaced}
use Rattle.ipg_tree_view.specs.Bare.{bare_of, runs, end_of}

-- ---- columns

abbrev pub blanks : ℕ → List ℕ
blanks n = replicate n 32

-- a dot for what is no character of ASCII
abbrev pub printable : ℕ → ℕ
printable b = if nat_le 32 b && nat_le b 126 then b else 46

-- the last eight hexadecimal digits of a place
abbrev pub offset : ℕ → List ℕ
offset at = encode_lower (to_be_bytes w32 (at % 2 ^ 32))

-- two digits and a blank for each byte
abbrev pub cells : List ℕ → List ℕ
cells [] = []
cells (b ∷ bytes) = encode_lower (b ∷ []) ++ 32 ∷ cells bytes

-- bytes as digits, and as characters between bars
abbrev pub filled : List ℕ → List ℕ
filled bytes =
    cells bytes ++ (blanks (48 - 3 * length bytes) ++ (124 ∷ (map printable bytes ++ (blanks (16 - length bytes) ++ 124 ∷ []))))

-- up to 16 bytes; blanks where there are none
abbrev pub columns : List ℕ → List ℕ
columns [] = blanks 66
columns (b ∷ bytes) = filled (b ∷ bytes)

-- at most 54 characters of a text; where it has more, the last two are dots
abbrev pub cut : List ℕ → List ℕ
cut text = if nat_lt 54 (length text) then take 52 (map printable text) ++ codes ".." else map printable text

-- a line of bytes, and what they are
abbrev pub line : ℕ → List ℕ → List ℕ → List ℕ
line at bytes text = offset at ++ (blanks 2 ++ (columns bytes ++ (blanks 2 ++ (cut text ++ 10 ∷ []))))

-- a line of bytes that go on
abbrev pub more_line : ℕ → List ℕ → List ℕ
more_line at [] = []
more_line at (b ∷ bytes) = offset at ++ (blanks 2 ++ (columns (b ∷ bytes) ++ 10 ∷ []))

-- a line of what has neither a place nor bytes
abbrev pub bare_line : List ℕ → List ℕ
bare_line text = blanks 78 ++ (cut text ++ 10 ∷ [])

-- ---- texts

-- two blanks for each level, up to twelve levels
abbrev pub indented : ℕ → List ℕ → List ℕ
indented depth text = blanks (2 * min depth 12) ++ text

-- `FROM..TO`, and what follows
abbrev pub interval : ℕ → ℕ → List ℕ → List ℕ
interval from to more = decimal from ++ (codes ".." ++ (decimal to ++ more))

-- a rule, its part, and its attributes
abbrev pub node_text : Grammar → ℕ → ℕ → ℕ → ℕ → List (ℕ × ℤ) → List ℕ
node_text g depth at rule size attrs =
    indented depth (rule_name g rule ++ 32 ∷ interval at (at + size) (spaced (map (attr_word g) attrs)))

abbrev pub items_text : Grammar → ℕ → List ℕ → Sym → Kids → List ℕ
items_text g depth kind sym items = indented depth (kind ++ (sym_name g sym ++ (codes " x " ++ decimal (count_of items))))

-- how many bytes follow those that are shown, if any do
abbrev pub count_line : ℕ → ℕ → ℕ → List ℕ
count_line depth at count =
    if nat_le count 48 then [] else line (at + 48) [] (indented (depth + 1) (decimal (count - 48) ++ codes " more"))

-- the first 48 bytes in up to three lines, what they are beside the first, and how many follow
abbrev pub piece : ℕ → ℕ → List ℕ → List ℕ → List ℕ
piece depth at bytes text =
    line at (take 16 bytes) (indented depth text)
    ++ (more_line (at + 16) (take 16 (drop 16 bytes)) ++ (more_line (at + 32) (take 16 (drop 32 bytes)) ++ count_line depth at (length bytes)))

-- the bytes of the input from a place up to another, and what they are
abbrev pub piece_of : List ℕ → ℕ → ℕ → ℕ → List ℕ → List ℕ
piece_of input depth from to text = piece depth from (part input from to) text

-- ---- a tree

abbrev pub tree_head : Grammar → ℕ → ℕ → Tree → List ℕ
tree_head g depth at (Node rule size attrs start end kids) = line at [] (node_text g depth at rule size attrs)

-- a child alone, in a part that begins at `at`: a node and its attributes; or a leaf and the bytes that it has; or how many items there are
abbrev pub kid_view : Grammar → List ℕ → ℕ → ℕ → Kid → List ℕ
kid_view g input depth at (Sub from to sub) = tree_head g depth (at + from) sub
kid_view g input depth at (Token from to bytes) =
    piece_of input depth (at + from) (end_of (at + from) (at + to) (length bytes)) (codes "tok")
kid_view g input depth at (Number from to prim high low) =
    piece_of input depth (at + from) (end_of (at + from) (at + to) (width prim)) (primitive_name prim ++ 32 ∷ decimal (high * 2 ^ 32 + low))
kid_view g input depth at (Raw from to bytes) = piece_of input depth (at + from) (at + to) (codes "Bytes " ++ decimal (at + to - (at + from)))
kid_view g input depth at (Array sym items) = bare_line (items_text g depth (codes "for ") sym items)
kid_view g input depth at (Many sym items) = bare_line (items_text g depth (codes "many ") sym items)

abbrev pub seen_view : Grammar → List ℕ → Seen → List ℕ
seen_view g input one = kid_view g input one.depth one.at one.child

-- bytes that no leaf has, from a place up to another
abbrev pub gap_view : List ℕ → ℕ × ℕ → List ℕ
gap_view input run = piece_of input 1 run.0 run.1 (codes "gap " ++ interval run.0 run.1 [])

-- a tree beside its input: what is in the tree, in the order of its lines, and then the bytes that no leaf has
abbrev pub view_by : Grammar → List ℕ → Tree → List Bool → List ℕ
view_by g input one bare = flat_map (seen_view g input) (visits one) ++ flat_map (gap_view input) (runs 0 None bare)

abbrev pub view : Grammar → List ℕ → Tree → List ℕ
view g input one = view_by g input one (bare_of (length input) (visits one))
