-- A tree as one JSON text: an object for each node, terminal, number, raw bytes, array and repetition, with those in it as a list.
use Rattle.std.specs.Prelude.{ℕ, ◌+◌, ◌-◌, List, [], ◌∷◌, ◌++◌, map, flat_map, take, length, decimal, codes, ℤ}
use Rattle.std.specs.Fmt.{signed_decimal}
use Rattle.ipg_core.specs.declared.grammar.Primitive.{Primitive}
use Rattle.ipg_core.specs.declared.grammar.Primitive.TheVariants.{U8, U16LE, U16BE, U32LE, U32BE, U64LE, U64BE, Bytes}
use Rattle.ipg_core.specs.declared.grammar.Sym.{Sym}
use Rattle.ipg_core.specs.Grammar.{Grammar, name_at}
use Rattle.hex.specs.Hex.{encode_lower}
use Rattle.ipg_core.specs.Lines.{primitive_name, rule_name, sym_name}
use Rattle.ipg_core.specs.Tree.{Tree, Node, Kid, Sub, Token, Number, Raw, Array, Many, Kids, no_kids, kid}

-- texts parted by commas
abbrev pub joined : List (List ℕ) → List ℕ
joined [] = []
joined (one ∷ more) = one ++ flat_map (λ text. 44 ∷ text) more

-- `"x":-5`
abbrev pub member : Grammar → ℕ × ℤ → List ℕ
member g attr = codes "\"" ++ (name_at g.names attr.0 ++ (codes "\":" ++ signed_decimal attr.1))

-- the ends of its part, and where it begins and ends to touch bytes
abbrev pub places : ℕ → ℕ → ℕ → ℕ → List ℕ
places from to start end =
    codes "\",\"from\":" ++ (decimal from ++ (codes ",\"to\":" ++ (decimal to
    ++ (codes ",\"start\":" ++ (decimal start ++ (codes ",\"end\":" ++ (decimal end ++ codes ",\"attrs\":{")))))))

-- the object of a node up to those in it
abbrev pub node_head : Grammar → ℕ → ℕ → ℕ → ℕ → ℕ → List (ℕ × ℤ) → List ℕ
node_head g at rule size start end attrs =
    codes "{\"rule\":\"" ++ (rule_name g rule ++ (places at (at + size) (at + start) (at + end)
    ++ (joined (map (member g) attrs) ++ codes "},\"kids\":[")))

-- what it was read as, the ends of its interval, and what follows them
abbrev pub leaf : List ℕ → ℕ → ℕ → List ℕ → List ℕ
leaf prim from to more =
    codes "{\"prim\":\"" ++ (prim ++ (codes "\",\"from\":" ++ (decimal from ++ (codes ",\"to\":" ++ (decimal to ++ more)))))

-- a number of 64 bits is given in two halves
abbrev pub value : Primitive → ℕ → ℕ → List ℕ
value U64LE high low = codes ",\"hi\":" ++ (decimal high ++ (codes ",\"lo\":" ++ (decimal low ++ codes "}")))
value U64BE high low = codes ",\"hi\":" ++ (decimal high ++ (codes ",\"lo\":" ++ (decimal low ++ codes "}")))
value prim high low = codes ",\"val\":" ++ (decimal low ++ codes "}")

-- all bytes of a terminal
abbrev pub terminal : List ℕ → List ℕ
terminal bytes = codes ",\"hex\":\"" ++ (encode_lower bytes ++ codes "\"}")

-- the first 32 of raw bytes, and how many more there are
abbrev pub raw : List ℕ → List ℕ
raw bytes = codes ",\"hex\":\"" ++ (encode_lower (take 32 bytes) ++ (codes "\",\"more\":" ++ (decimal (length bytes - 32) ++ codes "}")))

-- the object of an array or a repetition up to its items
abbrev pub items_head : Grammar → List ℕ → Sym → List ℕ
items_head g opening sym = opening ++ (sym_name g sym ++ codes "\",\"items\":[")

abbrev pub array_head : Grammar → Sym → List ℕ
array_head g sym = items_head g (codes "{\"for\":\"") sym

abbrev pub many_head : Grammar → Sym → List ℕ
many_head g sym = items_head g (codes "{\"many\":\"") sym

-- the end of a list, and of the object that it ends
abbrev pub end : List ℕ
end = codes "]}"

-- of a tree whose part begins at an absolute place, of a child and of children whose parent's part does
abbrev mutual
  pub tree_json : Grammar → ℕ → Tree → List ℕ
  tree_json g at (Node rule size attrs start ends kids) = node_head g at rule size start ends attrs ++ (kids_json g at kids ++ end)

  pub kid_json : Grammar → ℕ → Kid → List ℕ
  kid_json g at (Sub from to tree) = tree_json g (at + from) tree
  kid_json g at (Token from to bytes) = leaf (codes "tok") (at + from) (at + to) (terminal bytes)
  kid_json g at (Number from to prim high low) = leaf (primitive_name prim) (at + from) (at + to) (value prim high low)
  kid_json g at (Raw from to bytes) = leaf (codes "Bytes") (at + from) (at + to) (raw bytes)
  kid_json g at (Array sym items) = array_head g sym ++ (kids_json g at items ++ end)
  kid_json g at (Many sym items) = many_head g sym ++ (kids_json g at items ++ end)

  pub kids_json : Grammar → ℕ → Kids → List ℕ
  kids_json g at no_kids = []
  kids_json g at (kid k ks) = kid_json g at k ++ more_json g at ks

  -- each behind a comma
  pub more_json : Grammar → ℕ → Kids → List ℕ
  more_json g at no_kids = []
  more_json g at (kid k ks) = 44 ∷ (kid_json g at k ++ more_json g at ks)

-- the text of a tree on the whole input, and a line feed
abbrev pub json : Grammar → Tree → List ℕ
json g tree = tree_json g 0 tree ++ 10 ∷ []
