-- A tree beside its bytes is written in characters of ASCII and line feeds.
use Rattle.std.proofs.Common.{◌≡◌, ℕ, zero, suc, ◌+◌, ◌-◌, ◌*◌, ◌/◌, ◌%◌, ◌^◌, ◌<◌, List, [], ◌∷◌}
use Rattle.std.proofs.Common.{◌++◌, length, map, take, drop, flat_map, refl, sym, ap, ◌∙◌, arith}
use Rattle.std.proofs.Common.{Bool, true, false, ◌&&◌}
use Rattle.std.specs.Prelude.{◌||◌, nat_eq, nat_le, nat_lt, codes, decimal, slice_index, if◌then◌else◌}
use Rattle.std.specs.Int.{w32, to_be_bytes, bytes_high_first, byte_at}
use Rattle.std.specs.List.{AllByRecursion}
use Rattle.ipg_core.specs.Grammar.{Grammar}
use Rattle.hex.specs.Hex.{encode_lower, encode_with, lower_digits}
use Rattle.ipg_core.specs.Lines.{primitive_name}
use Rattle.ipg_core.specs.Part.{part}
use Rattle.ipg_core.specs.Touch.{width}
use Rattle.ipg_core.specs.Tree as tree
use Rattle.ipg_core.specs.Tree.{Kid}
use Rattle.ipg_tree_walk.specs.Visits.{visits, whole, from_of}
use Rattle.ipg_query.specs.Inside.{visits_of}
use Rattle.ipg_query.specs.Picked.{Found, found, members, field_named}
use Rattle.ipg_tree_view.specs.Picked.{value_view, shown_view}
use Rattle.std.specs.Fmt.{signed_decimal}
use Rattle.std.proofs.Common.{Option, None, Some}
use Rattle.std.specs.Prelude.{ℤ}
use Rattle.ipg_tree_view.specs.Bare.{bare_of, runs, end_of}
use Rattle.ipg_tree_view.specs.View.{blanks, printable, offset, cells, filled, columns, cut, line, more_line, bare_line, indented, interval}
use Rattle.ipg_tree_view.specs.View.{node_text, items_text, count_line, piece, piece_of, kid_view, seen_view, gap_view}
use Rattle.ipg_tree_view.specs.Laws.{is_plain, IsPlain, ViewIsPlain, PickedViewIsPlain}

abbrev AreBytes : List ℕ → Type 0
AreBytes s = AllByRecursion (λ b. b < 256) s

both : (xs ys : List ℕ) → IsPlain xs → IsPlain ys → IsPlain (xs ++ ys)
both [] ys p q = q
both (x ∷ xs) ys p q = (p.0, both xs ys p.1 q)

either : (t : Bool) (xs ys : List ℕ) → IsPlain xs → IsPlain ys → IsPlain (if t then xs else ys)
either true xs ys p q = p
either false xs ys p q = q

of_each : {X : Type 0} (f : X → List ℕ) (xs : List X) → ((x : X) → IsPlain (f x)) → IsPlain (flat_map f xs)
of_each f [] h = tt
of_each f (x ∷ xs) h = both (f x) (flat_map f xs) (h x) (of_each f xs h)

first_plain : (n : ℕ) (xs : List ℕ) → IsPlain xs → IsPlain (take n xs)
first_plain zero [] p = tt
first_plain zero (x ∷ xs) p = tt
first_plain (suc n) [] p = tt
first_plain (suc n) (x ∷ xs) p = (p.0, first_plain n xs p.1)

blanks_plain : (n : ℕ) → IsPlain (blanks n)
blanks_plain zero = tt
blanks_plain (suc n) = (refl, blanks_plain n)

-- ---- characters

or_true : (a : Bool) → a || true ≡ true
or_true true = refl
or_true false = refl

dotted : (t : Bool) (b : ℕ) → t ≡ nat_le 32 b && nat_le b 126 → is_plain (if t then b else 46) ≡ true
dotted true b is = ap (λ t. nat_eq b 10 || t) (sym is) ∙ or_true (nat_eq b 10)
dotted false b is = refl

shown_plain : (text : List ℕ) → IsPlain (map printable text)
shown_plain [] = tt
shown_plain (b ∷ text) = (dotted (nat_le 32 b && nat_le b 126) b refl, shown_plain text)

-- ---- digits

digits_plain : IsPlain lower_digits
digits_plain = (refl, (refl, (refl, (refl, (refl, (refl, (refl, (refl, (refl, (refl, (refl, (refl, (refl, (refl, (refl, (refl, tt))))))))))))))))

index_plain : (xs : List ℕ) (d : ℕ) → IsPlain xs → d < length xs → is_plain (slice_index xs d) ≡ true
index_plain [] d p lt = absurd (omega (arith, lt))
index_plain (x ∷ xs) zero p lt = p.0
index_plain (x ∷ xs) (suc d) p lt = index_plain xs d p.1 (omega (arith, lt))

digit_plain : (d : ℕ) → d < 16 → is_plain (slice_index lower_digits d) ≡ true
digit_plain d lt = index_plain lower_digits d digits_plain lt

hex_plain : (bytes : List ℕ) → AreBytes bytes → IsPlain (encode_lower bytes)
unfolding encode_with
hex_plain [] h = tt
hex_plain (b ∷ bytes) h =
    (digit_plain (b / 16) (let lt = h.0 in omega (arith, lt)), (digit_plain (b % 16) (omega arith), hex_plain bytes h.1))

cells_plain : (bytes : List ℕ) → AreBytes bytes → IsPlain (cells bytes)
cells_plain [] h = tt
cells_plain (b ∷ bytes) h =
    both (encode_lower (b ∷ [])) (32 ∷ cells bytes) (hex_plain (b ∷ []) (h.0, tt)) (refl, cells_plain bytes h.1)

byte_small : (k n : ℕ) → byte_at k n < 256
byte_small zero n = omega arith
byte_small (suc k) n = omega arith

high_bytes : (k n : ℕ) → AreBytes (bytes_high_first k n)
high_bytes zero n = tt
high_bytes (suc k) n = (byte_small k n, high_bytes k n)

offset_plain : (at : ℕ) → IsPlain (offset at)
offset_plain at = hex_plain (to_be_bytes w32 (at % 2 ^ 32)) (high_bytes 4 (at % 2 ^ 32))

-- ---- lines

filled_plain : (bytes : List ℕ) → AreBytes bytes → IsPlain (filled bytes)
filled_plain bytes h =
    let d = blanks (16 - length bytes) ++ 124 ∷ [] in
    let c = 124 ∷ (map printable bytes ++ d) in
    let b = blanks (48 - 3 * length bytes) ++ c in
    both (cells bytes) b (cells_plain bytes h) (both (blanks (48 - 3 * length bytes)) c (blanks_plain (48 - 3 * length bytes))
    (refl, both (map printable bytes) d (shown_plain bytes) (both (blanks (16 - length bytes)) (124 ∷ []) (blanks_plain (16 - length bytes)) (refl, tt))))

columns_plain : (bytes : List ℕ) → AreBytes bytes → IsPlain (columns bytes)
columns_plain [] h = blanks_plain 66
columns_plain (b ∷ bytes) h = filled_plain (b ∷ bytes) h

cut_plain : (text : List ℕ) → IsPlain (cut text)
cut_plain text =
    either (nat_lt 54 (length text)) (take 52 (map printable text) ++ codes "..") (map printable text)
    (both (take 52 (map printable text)) (codes "..") (first_plain 52 (map printable text) (shown_plain text)) (refl, (refl, tt))) (shown_plain text)

ended_plain : (text : List ℕ) → IsPlain (cut text ++ 10 ∷ [])
ended_plain text = both (cut text) (10 ∷ []) (cut_plain text) (refl, tt)

line_plain : (at : ℕ) (bytes text : List ℕ) → AreBytes bytes → IsPlain (line at bytes text)
line_plain at bytes text h =
    let e = cut text ++ 10 ∷ [] in
    let d = blanks 2 ++ e in
    let c = columns bytes ++ d in
    let b = blanks 2 ++ c in
    both (offset at) b (offset_plain at) (both (blanks 2) c (blanks_plain 2) (both (columns bytes) d (columns_plain bytes h)
    (both (blanks 2) e (blanks_plain 2) (ended_plain text))))

more_plain : (at : ℕ) (bytes : List ℕ) → AreBytes bytes → IsPlain (more_line at bytes)
more_plain at [] h = tt
more_plain at (b ∷ bytes) h =
    let d = columns (b ∷ bytes) ++ 10 ∷ [] in
    let c = blanks 2 ++ d in
    both (offset at) c (offset_plain at) (both (blanks 2) d (blanks_plain 2) (both (columns (b ∷ bytes)) (10 ∷ []) (columns_plain (b ∷ bytes) h) (refl, tt)))

bare_plain : (text : List ℕ) → IsPlain (bare_line text)
bare_plain text = both (blanks 78) (cut text ++ 10 ∷ []) (blanks_plain 78) (ended_plain text)

-- ---- bytes

first_bytes : (n : ℕ) (xs : List ℕ) → AreBytes xs → AreBytes (take n xs)
first_bytes zero [] h = tt
first_bytes zero (x ∷ xs) h = tt
first_bytes (suc n) [] h = tt
first_bytes (suc n) (x ∷ xs) h = (h.0, first_bytes n xs h.1)

last_bytes : (n : ℕ) (xs : List ℕ) → AreBytes xs → AreBytes (drop n xs)
last_bytes zero [] h = tt
last_bytes zero (x ∷ xs) h = h
last_bytes (suc n) [] h = tt
last_bytes (suc n) (x ∷ xs) h = last_bytes n xs h.1

count_plain : (depth at count : ℕ) → IsPlain (count_line depth at count)
count_plain depth at count =
    let text = indented (depth + 1) (decimal (count - 48) ++ codes " more") in
    either (nat_le count 48) [] (line (at + 48) [] text) tt (line_plain (at + 48) [] text tt)

piece_plain : (depth at : ℕ) (bytes text : List ℕ) → AreBytes bytes → IsPlain (piece depth at bytes text)
piece_plain depth at bytes text h =
    let one = take 16 bytes in
    let two = take 16 (drop 16 bytes) in
    let three = take 16 (drop 32 bytes) in
    let d = count_line depth at (length bytes) in
    let c = more_line (at + 32) three ++ d in
    let b = more_line (at + 16) two ++ c in
    both (line at one (indented depth text)) b (line_plain at one (indented depth text) (first_bytes 16 bytes h))
    (both (more_line (at + 16) two) c (more_plain (at + 16) two (first_bytes 16 (drop 16 bytes) (last_bytes 16 bytes h)))
    (both (more_line (at + 32) three) d (more_plain (at + 32) three (first_bytes 16 (drop 32 bytes) (last_bytes 32 bytes h)))
    (count_plain depth at (length bytes))))

-- ---- a tree

module _ (g : Grammar) (input : List ℕ) (h : AreBytes input) where
  part_plain : (depth from to : ℕ) (text : List ℕ) → IsPlain (piece_of input depth from to text)
  part_plain depth from to text = piece_plain depth from (part input from to) text (first_bytes (to - from) (drop from input) (last_bytes from input h))

  kid_plain : (depth at : ℕ) (k : Kid) → IsPlain (kid_view g input depth at k)
  kid_plain depth at (tree.Sub from to (tree.Node rule size attrs start end kids)) =
      line_plain (at + from) [] (node_text g depth (at + from) rule size attrs) tt
  kid_plain depth at (tree.Token from to bytes) = part_plain depth (at + from) (end_of (at + from) (at + to) (length bytes)) (codes "tok")
  kid_plain depth at (tree.Number from to prim high low) =
      part_plain depth (at + from) (end_of (at + from) (at + to) (width prim)) (primitive_name prim ++ 32 ∷ decimal (high * 2 ^ 32 + low))
  kid_plain depth at (tree.Raw from to bytes) = part_plain depth (at + from) (at + to) (codes "Bytes " ++ decimal (at + to - (at + from)))
  kid_plain depth at (tree.Array one items) = bare_plain (items_text g depth (codes "for ") one items)
  kid_plain depth at (tree.Many one items) = bare_plain (items_text g depth (codes "many ") one items)

  gap_plain : (run : ℕ × ℕ) → IsPlain (gap_view input run)
  gap_plain run = part_plain 1 run.0 run.1 (codes "gap " ++ interval run.0 run.1 [])

pub view_plain : ViewIsPlain
view_plain g input one h =
    let gaps = runs 0 None (bare_of (length input) (visits one)) in
    both (flat_map (seen_view g input) (visits one)) (flat_map (gap_view input) gaps)
    (of_each (seen_view g input) (visits one) (λ s. kid_plain g input h s.depth s.at s.child)) (of_each (gap_view input) gaps (gap_plain g input h))

value_plain : (name : List ℕ) (x : Found) (value : Option ℤ) → IsPlain (value_view name x value)
value_plain name x None = tt
value_plain name x (Some z) = line_plain (x.at + from_of x.child) [] (name ++ (codes "=" ++ signed_decimal z)) tt

found_plain : (g : Grammar) (input : List ℕ) → AreBytes input → (field : Option (List ℕ)) (x : Found) → IsPlain (shown_view g input field x)
found_plain g input h None x = of_each (seen_view g input) (visits_of 0 x) (λ s. kid_plain g input h s.depth s.at s.child)
found_plain g input h (Some name) x = value_plain name x (field_named g name x)

pub picked_plain : PickedViewIsPlain
picked_plain g input query one h =
    of_each (shown_view g input query.field) (members g query.steps (found 0 (whole one) ∷ [])) (found_plain g input h query.field)
