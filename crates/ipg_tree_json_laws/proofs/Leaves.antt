-- The text of a leaf comes apart in one way.
use Rattle.std.proofs.Common.{◌≡◌, ◌≢◌, ℕ, ◌+◌, ◌-◌, List, [], ◌∷◌, ◌++◌, length, get_or, take, codes, refl, ap, ◌∙◌, sym, arith, decimal}
use Rattle.ipg_core.specs.declared.grammar.Primitive.{Primitive}
use Rattle.ipg_core.specs.declared.grammar.Primitive.TheVariants.{U8, U16LE, U16BE, U32LE, U32BE, U64LE, U64BE, Bytes}
use Rattle.ipg_core.specs.Grammar.{Grammar}
use Rattle.ipg_core.specs.Tree.{Kid, Token, Number, Raw}
use Rattle.hex.specs.Hex.{encode_lower}
use Rattle.ipg_core.specs.Lines.{line, hex, short_hex, primitive_name, set_word, number_words, kid_lines}
use Rattle.ipg_tree.specs.Json.{leaf, value, terminal, raw, kid_json}
use Rattle.ipg_tree_json_laws.specs.Laws.{IsUnquoted}
use Rattle.ipg_tree_json_laws.proofs.Texts.{same_both, front, split_in, word, spelled, Stops, IsOfNumber, comma, brace, decimal_is}
use Rattle.ipg_tree_json_laws.proofs.Words.{primitive_is, hex_is, same_hex, same_short}

-- what is told of a leaf's bytes
pub data Shown : Type 0 where
  All : List ℕ → Shown
  First : List ℕ → Shown
  One : ℕ → Shown
  Two : ℕ → ℕ → Shown

abbrev pub text : Shown → List ℕ
text (All bytes) = terminal bytes
text (First bytes) = raw bytes
text (One n) = codes ",\"val\":" ++ (decimal n ++ codes "}")
text (Two high low) = codes ",\"hi\":" ++ (decimal high ++ (codes ",\"lo\":" ++ (decimal low ++ codes "}")))

abbrev pub words : Shown → List (List ℕ)
words (All bytes) = hex bytes ∷ []
words (First bytes) = short_hex bytes ∷ []
words (One n) = set_word (codes "val") (decimal n) ∷ []
words (Two high low) = set_word (codes "hi") (decimal high) ∷ set_word (codes "lo") (decimal low) ∷ []

all_same : (a b r s : List ℕ) → terminal a ++ r ≡ terminal b ++ s → (words (All a) ≡ words (All b)) × (r ≡ s)
all_same a b r s e =
    let e1 = front (codes ",\"hex\":\"") (encode_lower a ++ codes "\"}") (encode_lower b ++ codes "\"}") r s e in
    let e2 = word (encode_lower a) (encode_lower b) (codes "}") (codes "}") r s (hex_is a) (hex_is b) e1 in
    ((λ i. same_hex a b e2.0 i ∷ []), (same_both (same_both e2.1).1).1)

abbrev raw_end : List ℕ → List ℕ
raw_end bytes = codes ",\"more\":" ++ (decimal (length bytes - 32) ++ codes "}")

first_same : (a b r s : List ℕ) → raw a ++ r ≡ raw b ++ s → (words (First a) ≡ words (First b)) × (r ≡ s)
first_same a b r s e =
    let e1 = front (codes ",\"hex\":\"") (encode_lower (take 32 a) ++ (34 ∷ raw_end a)) (encode_lower (take 32 b) ++ (34 ∷ raw_end b)) r s e in
    let e2 = word (encode_lower (take 32 a)) (encode_lower (take 32 b)) (raw_end a) (raw_end b) r s (hex_is (take 32 a)) (hex_is (take 32 b)) e1 in
    let e3 = front (codes "\",\"more\":") (decimal (length a - 32) ++ codes "}") (decimal (length b - 32) ++ codes "}") r s e2.1 in
    let e4 = split_in IsOfNumber (decimal (length a - 32)) (decimal (length b - 32)) (codes "}") (codes "}") r s (decimal_is _) (decimal_is _) brace brace e3 in
    ((λ i. same_short a b e2.0 e4.0 i ∷ []), (same_both e4.1).1)

one_same : (m n : ℕ) (r s : List ℕ) → text (One m) ++ r ≡ text (One n) ++ s → (words (One m) ≡ words (One n)) × (r ≡ s)
one_same m n r s e =
    let e1 = front (codes ",\"val\":") (decimal m ++ codes "}") (decimal n ++ codes "}") r s e in
    let e2 = split_in IsOfNumber (decimal m) (decimal n) (codes "}") (codes "}") r s (decimal_is m) (decimal_is n) brace brace e1 in
    ((λ i. set_word (codes "val") (e2.0 i) ∷ []), (same_both e2.1).1)

abbrev low_end : ℕ → List ℕ
low_end low = codes ",\"lo\":" ++ (decimal low ++ codes "}")

two_same : (h l m n : ℕ) (r s : List ℕ) → text (Two h l) ++ r ≡ text (Two m n) ++ s → (words (Two h l) ≡ words (Two m n)) × (r ≡ s)
two_same h l m n r s e =
    let e1 = front (codes ",\"hi\":") (decimal h ++ low_end l) (decimal m ++ low_end n) r s e in
    let e2 = split_in IsOfNumber (decimal h) (decimal m) (low_end l) (low_end n) r s (decimal_is h) (decimal_is m) comma comma e1 in
    let e3 = front (codes ",\"lo\":") (decimal l ++ codes "}") (decimal n ++ codes "}") r s e2.1 in
    let e4 = split_in IsOfNumber (decimal l) (decimal n) (codes "}") (codes "}") r s (decimal_is l) (decimal_is n) brace brace e3 in
    ((λ i. set_word (codes "hi") (e2.0 i) ∷ set_word (codes "lo") (e4.0 i) ∷ []), (same_both e4.1).1)

-- all bytes of one end at the brace, the first of the other at a comma
all_or_first : (a b r s : List ℕ) → terminal a ++ r ≡ raw b ++ s → ⊥
all_or_first a b r s e =
    let e1 = front (codes ",\"hex\":\"") (encode_lower a ++ codes "\"}") (encode_lower (take 32 b) ++ (34 ∷ raw_end b)) r s e in
    let e2 = word (encode_lower a) (encode_lower (take 32 b)) (codes "}") (raw_end b) r s (hex_is a) (hex_is (take 32 b)) e1 in
    let other : 125 ≡ 44 = (same_both (same_both e2.1).1).0 in
    absurd (omega (arith, other))

-- two texts that differ at a place
pub apart : (n : ℕ) (r s : List ℕ) → get_or r n 0 ≢ get_or s n 0 → r ≡ s → ⊥
apart n r s differ e = differ (ap (λ (bytes : List ℕ). get_or bytes n 0) e)

shown_same : (x y : Shown) (r s : List ℕ) → text x ++ r ≡ text y ++ s → (words x ≡ words y) × (r ≡ s)
shown_same (All a) (All b) r s e = all_same a b r s e
shown_same (First a) (First b) r s e = first_same a b r s e
shown_same (One m) (One n) r s e = one_same m n r s e
shown_same (Two h l) (Two m n) r s e = two_same h l m n r s e
shown_same (All a) (First b) r s e = absurd (all_or_first a b r s e)
shown_same (First a) (All b) r s e = absurd (all_or_first b a s r (sym e))
shown_same (All a) (One n) r s e = absurd (apart 2 _ _ (λ (d : 104 ≡ 118). omega (arith, d)) e)
shown_same (First a) (One n) r s e = absurd (apart 2 _ _ (λ (d : 104 ≡ 118). omega (arith, d)) e)
shown_same (Two h l) (One n) r s e = absurd (apart 2 _ _ (λ (d : 104 ≡ 118). omega (arith, d)) e)
shown_same (One m) (All b) r s e = absurd (apart 2 _ _ (λ (d : 118 ≡ 104). omega (arith, d)) e)
shown_same (One m) (First b) r s e = absurd (apart 2 _ _ (λ (d : 118 ≡ 104). omega (arith, d)) e)
shown_same (One m) (Two h l) r s e = absurd (apart 2 _ _ (λ (d : 118 ≡ 104). omega (arith, d)) e)
shown_same (All a) (Two h l) r s e = absurd (apart 3 _ _ (λ (d : 101 ≡ 105). omega (arith, d)) e)
shown_same (First a) (Two h l) r s e = absurd (apart 3 _ _ (λ (d : 101 ≡ 105). omega (arith, d)) e)
shown_same (Two h l) (All b) r s e = absurd (apart 3 _ _ (λ (d : 105 ≡ 101). omega (arith, d)) e)
shown_same (Two h l) (First b) r s e = absurd (apart 3 _ _ (λ (d : 105 ≡ 101). omega (arith, d)) e)

-- what is behind a number begins with a comma
shown_stops : (x : Shown) (r : List ℕ) → Stops IsOfNumber (text x ++ r)
shown_stops (All bytes) r = comma
shown_stops (First bytes) r = comma
shown_stops (One n) r = comma
shown_stops (Two high low) r = comma

-- ---- leaves

abbrev pub leaf_words : List ℕ → ℕ → ℕ → Shown → ℕ → List ℕ
leaf_words kind from to shown depth = line (decimal depth ∷ kind ∷ decimal from ∷ decimal to ∷ words shown)

abbrev to_end : ℕ → Shown → List ℕ
to_end to shown = codes ",\"to\":" ++ (decimal to ++ text shown)

abbrev from_end : ℕ → ℕ → Shown → List ℕ
from_end from to shown = codes ",\"from\":" ++ (decimal from ++ to_end to shown)

-- a leaf by its parts
pub record IsLeaf (g : Grammar) (at : ℕ) (k : Kid) : Type 0 where
  pub kind : List ℕ
  pub from : ℕ
  pub to : ℕ
  pub shown : Shown
  pub plain : IsUnquoted kind
  pub json : kid_json g at k ≡ leaf kind from to (text shown)
  pub lines : (depth : ℕ) → kid_lines g depth at k ≡ leaf_words kind from to shown depth ∷ []

parts_same : (p q : List ℕ) (f t from to : ℕ) (x y : Shown) (r s : List ℕ) → IsUnquoted p → IsUnquoted q
    → leaf p f t (text x) ++ r ≡ leaf q from to (text y) ++ s
    → ((depth : ℕ) → leaf_words p f t x depth ≡ leaf_words q from to y depth) × (r ≡ s)
parts_same p q f t from to x y r s plain other e =
    let e1 = front (codes "{\"prim\":\"") (p ++ (34 ∷ from_end f t x)) (q ++ (34 ∷ from_end from to y)) r s e in
    let e2 = word p q (from_end f t x) (from_end from to y) r s plain other e1 in
    let e3 = front (codes "\",\"from\":") (decimal f ++ to_end t x) (decimal from ++ to_end to y) r s e2.1 in
    let e4 = split_in IsOfNumber (decimal f) (decimal from) (to_end t x) (to_end to y) r s (decimal_is f) (decimal_is from) comma comma e3 in
    let e5 = front (codes ",\"to\":") (decimal t ++ text x) (decimal to ++ text y) r s e4.1 in
    let e6 = split_in IsOfNumber (decimal t) (decimal to) (text x) (text y) r s (decimal_is t) (decimal_is to) (shown_stops x r) (shown_stops y s) e5 in
    let e7 = shown_same x y r s e6.1 in
    ((λ depth. λ i. line (decimal depth ∷ e2.0 i ∷ e4.0 i ∷ e6.0 i ∷ e7.0 i)), e7.1)

pub leaf_same : (g : Grammar) (a b : ℕ) (k l : Kid) (r s : List ℕ) → IsLeaf g a k → IsLeaf g b l → kid_json g a k ++ r ≡ kid_json g b l ++ s
    → ((depth : ℕ) → kid_lines g depth a k ≡ kid_lines g depth b l) × (r ≡ s)
leaf_same g a b k l r s one other e =
    let same = parts_same one.kind other.kind one.from one.to other.from other.to one.shown other.shown r s one.plain other.plain
    (ap (λ (bytes : List ℕ). bytes ++ r) (sym one.json) ∙ e ∙ ap (λ (bytes : List ℕ). bytes ++ s) other.json) in
    ((λ depth. one.lines depth ∙ ap (λ (l : List ℕ). l ∷ []) (same.0 depth) ∙ sym (other.lines depth)), same.1)

pub token_leaf : (g : Grammar) (at from to : ℕ) (bytes : List ℕ) → IsLeaf g at (Token from to bytes)
token_leaf g at from to bytes = record {
  kind = codes "tok";
  from = at + from;
  to = at + to;
  shown = All bytes;
  plain = spelled (codes "tok") refl;
  json = refl;
  lines = λ depth. refl;
}

pub raw_leaf : (g : Grammar) (at from to : ℕ) (bytes : List ℕ) → IsLeaf g at (Raw from to bytes)
raw_leaf g at from to bytes = record {
  kind = codes "Bytes";
  from = at + from;
  to = at + to;
  shown = First bytes;
  plain = spelled (codes "Bytes") refl;
  json = refl;
  lines = λ depth. refl;
}

abbrev number : Primitive → ℕ → ℕ → Shown
number U8 high low = One low
number U16LE high low = One low
number U16BE high low = One low
number U32LE high low = One low
number U32BE high low = One low
number U64LE high low = Two high low
number U64BE high low = Two high low
number Bytes high low = One low

number_is : (prim : Primitive) (high low : ℕ)
    → (value prim high low ≡ text (number prim high low)) × (number_words prim high low ≡ words (number prim high low))
number_is U8 high low = (refl, refl)
number_is U16LE high low = (refl, refl)
number_is U16BE high low = (refl, refl)
number_is U32LE high low = (refl, refl)
number_is U32BE high low = (refl, refl)
number_is U64LE high low = (refl, refl)
number_is U64BE high low = (refl, refl)
number_is Bytes high low = (refl, refl)

pub number_leaf : (g : Grammar) (at from to : ℕ) (prim : Primitive) (high low : ℕ) → IsLeaf g at (Number from to prim high low)
number_leaf g at from to prim high low =
    let is = number_is prim high low in
    record {
      kind = primitive_name prim;
      from = at + from;
      to = at + to;
      shown = number prim high low;
      plain = primitive_is prim;
      json = ap (leaf (primitive_name prim) (at + from) (at + to)) is.0;
      lines = λ depth. ap (λ (ws : List (List ℕ)). line (decimal depth ∷ primitive_name prim ∷ decimal (at + from) ∷ decimal (at + to) ∷ ws) ∷ []) is.1;
    }
