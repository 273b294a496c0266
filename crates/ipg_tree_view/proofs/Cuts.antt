-- What is kept of a text that is put together.
use Rattle.std.proofs.Common.{◌≡◌, ℕ, zero, suc, ◌+◌, ◌-◌, ◌*◌, ◌<◌, ◌≤◌, List, [], ◌∷◌, ◌++◌, length, map, take}
use Rattle.std.proofs.Common.{set, min, refl, sym, ap, ◌∙◌, subst, arith, append_assoc, append-nil, true, false}
use Rattle.std.specs.Prelude.{nat_lt, nat_le, codes, decimal, if◌then◌else◌, Bool}
use Rattle.ipg_core.specs.Grammar.{Grammar}
use Rattle.hex.specs.Hex.{encode_lower}
use Rattle.ipg_core.specs.Part.{part}
use Rattle.ipg_core.specs.Tree.{Tree, Node, attrs_of}
use Rattle.ipg_mach_nodes.specs.declared.kid.Node.{Node as Row}
use Rattle.ipg_mach_nodes.specs.Stored.{Stored}
use Rattle.ipg_tree.specs.Line.{Says}
use Rattle.std.proofs.lemmas.Bool.Decides.{nat_tests}
use Rattle.std.proofs.lemmas.List.{map-append, length-map, take_all, length-take, take_more_set, take-append-le, take-take}
use Rattle.std.proofs.Common.{length-append}
use Rattle.ipg_tree_view.specs.View.{printable, cut, blanks, indented, cells, line, count_line, node_text, tree_head, piece, piece_of}
use Rattle.ipg_tree_view.specs.Cutting.{Begun, begun, Lacks}

long_map : (text : List ℕ) → length (map printable text) ≡ length text
long_map text = length-map text printable

-- where fewer than 54 characters are kept, they are all
all_kept : (kept : List ℕ) (text : List ℕ) → length kept < 54 → kept ≡ take 54 (map printable text) → length text < 54
all_kept kept text short is =
    let long : length kept ≡ min 54 (length text) = ap length is ∙ length-take 54 (map printable text) ∙ ap (λ n. min 54 n) (long_map text) in
    omega (arith, long, short)

more_map : (text : List ℕ) (b : ℕ) → map printable (text ++ b ∷ []) ≡ map printable text ++ printable b ∷ []
more_map text b = map-append printable text (b ∷ [])

long_more : (text : List ℕ) (b : ℕ) → length (text ++ b ∷ []) ≡ length text + 1
long_more text b = length-append text (b ∷ [])

pub kept_more : (bytes : List ℕ) (len : ℕ) (is_longer : Bool) (text : List ℕ) (b : ℕ) → length bytes ≡ 54 → len < 54
    → record { kept = take len bytes; is_longer = is_longer } ≡ begun text
    → record { kept = take (len + 1) (set bytes len (printable b)); is_longer = is_longer } ≡ begun (text ++ b ∷ [])
kept_more bytes len is_longer text b long short is =
    let kept : take len bytes ≡ take 54 (map printable text) = ap (λ (r : Begun). r.kept) is in
    let longer : is_longer ≡ nat_lt 54 (length text) = ap (λ (r : Begun). r.is_longer) is in
    let has : length (take len bytes) ≡ len = length-take len bytes ∙ (omega (arith, long, short)) in
    let few : length text < 54 = all_kept (take len bytes) text (omega (arith, has, short)) kept in
    let whole : take 54 (map printable text) ≡ map printable text =
    take_all 54 (map printable text) (let e = long_map text in omega (arith, e, few)) in
    let whole_more : take 54 (map printable (text ++ b ∷ [])) ≡ map printable (text ++ b ∷ []) =
    take_all 54 (map printable (text ++ b ∷ [])) (let e = long_map (text ++ b ∷ []) in let f = long_more text b in omega (arith, e, f, few)) in
    let first : take (len + 1) (set bytes len (printable b)) ≡ take 54 (map printable (text ++ b ∷ [])) =
    take_more_set bytes len (printable b) (omega (arith, long, short)) ∙ ap (λ t. t ++ printable b ∷ []) (kept ∙ whole) ∙ sym (more_map text b)
    ∙ sym whole_more in
    let second : is_longer ≡ nat_lt 54 (length (text ++ b ∷ [])) =
    let f = long_more text b in
    let one : nat_lt 54 (length text) ≡ false = grind (arith, nat_tests) in
    let other : nat_lt 54 (length (text ++ b ∷ [])) ≡ false = grind (arith, nat_tests) in
    longer ∙ one ∙ sym other in
    cc

pub full_more : (kept : List ℕ) (is_longer : Bool) (text : List ℕ) (b : ℕ) → length kept ≡ 54
    → record { kept = kept; is_longer = is_longer } ≡ begun text → record { kept = kept; is_longer = true } ≡ begun (text ++ b ∷ [])
full_more kept is_longer text b full is =
    let same : kept ≡ take 54 (map printable text) = ap (λ (r : Begun). r.kept) is in
    let long : length kept ≡ min 54 (length text) = ap length same ∙ length-take 54 (map printable text) ∙ ap (λ n. min 54 n) (long_map text) in
    let many : 54 ≤ length text = omega (arith, long, full) in
    let first : kept ≡ take 54 (map printable (text ++ b ∷ [])) =
    same ∙ sym (take-append-le 54 (map printable text) (printable b ∷ []) (let e = long_map text in omega (arith, e, many)))
    ∙ ap (take 54) (sym (more_map text b)) in
    let second : true ≡ nat_lt 54 (length (text ++ b ∷ [])) = let f = long_more text b in grind (arith, nat_tests) in
    cc

-- ---- texts that lack their end

pub lacks_all : (text : List ℕ) → Lacks (begun []) text text
lacks_all text = ([], refl, refl)

pub lacks_none : (b : Begun) (text : List ℕ) → Lacks b text [] → b ≡ begun text
lacks_none b text h = h.2 ∙ ap begun (sym (append-nil h.0) ∙ h.1)

pub lacks_byte : (old new : Begun) (all : List ℕ) (b : ℕ) (end : List ℕ) → ((text : List ℕ) → old ≡ begun text → new ≡ begun (text ++ b ∷ []))
    → Lacks old all (b ∷ end) → Lacks new all end
lacks_byte old new all b end more h = (h.0 ++ b ∷ [], append_assoc h.0 (b ∷ []) end ∙ h.1, more h.0 h.2)

pub lacks_as : (b : Begun) (all end other : List ℕ) → end ≡ other → Lacks b all end → Lacks b all other
lacks_as b all end other e h = subst (λ t. Lacks b all t) e h

-- the cut text, where it is longer and where it isn't
pub cut_longer : (b : Begun) (text : List ℕ) → b.is_longer ≡ true → b ≡ begun text → take 52 b.kept ++ codes ".." ≡ cut text
cut_longer b text longest is =
    let same : b.kept ≡ take 54 (map printable text) = ap (λ (r : Begun). r.kept) is in
    let longer : nat_lt 54 (length text) ≡ true = sym (ap (λ (r : Begun). r.is_longer) is) ∙ longest in
    ap (λ t. take 52 t ++ codes "..") same ∙ ap (λ t. t ++ codes "..") (take-take 52 54 (map printable text) (omega arith))
    ∙ sym (ap (λ b. if b then take 52 (map printable text) ++ codes ".." else map printable text) longer)

pub cut_whole : (b : Begun) (text : List ℕ) → b.is_longer ≡ false → b ≡ begun text → b.kept ≡ cut text
cut_whole b text whole is =
    let same : b.kept ≡ take 54 (map printable text) = ap (λ (r : Begun). r.kept) is in
    let shorter : nat_lt 54 (length text) ≡ false = sym (ap (λ (r : Begun). r.is_longer) is) ∙ whole in
    let few : length text ≤ 54 = grind (arith, nat_tests) in
    same ∙ take_all 54 (map printable text) (let e = long_map text in omega (arith, e, few))
    ∙ sym (ap (λ b. if b then take 52 (map printable text) ++ codes ".." else map printable text) shorter)

-- two blanks for a level
pub two_blanks : (n : ℕ) → 0 < n → blanks (2 * n) ≡ codes "  " ++ blanks (2 * (n - 1))
two_blanks zero h = absurd (omega (arith, h))
two_blanks (suc n) h =
    let e : 2 * suc n ≡ suc (suc (2 * n)) = omega arith in
    let f : n ≡ suc n - 1 = omega arith in
    ap blanks e ∙ ap (λ k. 32 ∷ 32 ∷ blanks (2 * k)) f

pub indents : (left depth : ℕ) (b : Begun) (end : List ℕ) → b ≡ begun [] → left ≡ min depth 12 → Lacks b (indented depth end) (blanks (2 * left) ++ end)
indents left depth b end is least = ([], ap (λ k. blanks (2 * k) ++ end) least, is)

-- the same level
pub indent_same : (m n : ℕ) (text : List ℕ) → min m 12 ≡ min n 12 → indented m text ≡ indented n text
indent_same m n text e = ap (λ k. blanks (2 * k) ++ text) e

-- digits that were made apart
pub lacks_made : (b : Begun) (all digits tail made end : List ℕ) → made ≡ digits ++ tail → tail ≡ [] → Lacks b all (digits ++ end) → Lacks b all (made ++ end)
lacks_made b all digits tail made end is none h =
    lacks_as b all _ _ (ap (λ t. t ++ end) (sym (is ∙ ap (λ t. digits ++ t) none ∙ append-nil digits))) h

cells_append : (xs ys : List ℕ) → cells (xs ++ ys) ≡ cells xs ++ cells ys
cells_append [] ys = refl
cells_append (x ∷ xs) ys =
    ap (λ t. encode_lower (x ∷ []) ++ 32 ∷ t) (cells_append xs ys) ∙ sym (append_assoc (encode_lower (x ∷ [])) (32 ∷ cells xs) (cells ys))

-- the cell of the last byte goes before those that there are
pub last_cells : (left front : List ℕ) (b : ℕ) (piece spaced next all : List ℕ) → left ≡ front ++ b ∷ []
    → spaced ≡ 32 ∷ piece → next ≡ encode_lower (b ∷ []) ++ spaced → cells left ++ piece ≡ all → cells front ++ next ≡ all
last_cells left front b piece spaced next all split blank more h =
    ap (λ t. cells front ++ t) (more ∙ ap (λ t. encode_lower (b ∷ []) ++ t) blank ∙ sym (append_assoc (encode_lower (b ∷ [])) (32 ∷ []) piece))
    ∙ sym (append_assoc (cells front) (cells (b ∷ [])) piece)
    ∙ ap (λ t. t ++ piece) (sym (ap cells split ∙ cells_append front (b ∷ []))) ∙ h

-- how many bytes follow
pub count_is : (depth at count deeper behind : ℕ) → 48 < count → behind ≡ at + 48 → min deeper 12 ≡ min (depth + 1) 12
    → line behind [] (indented deeper (decimal (count - 48) ++ codes " more")) ≡ count_line depth at count
count_is depth at count deeper behind many is_behind is_deeper =
    let text = decimal (count - 48) ++ codes " more" in
    let longer : nat_le count 48 ≡ false = grind (arith, nat_tests) in
    ap (λ k. line k [] (indented deeper text)) is_behind ∙ ap (line (at + 48) []) (indent_same deeper (depth + 1) text is_deeper)
    ∙ ap (λ b. if b then [] else line (at + 48) [] (indented (depth + 1) text)) (sym longer)

-- what is said of a node is what is said of its tree
pub head_is : (g : Grammar) (st : Stored) (node : Row) (one : Tree) (depth at : ℕ) → Says st node one
    → line at [] (node_text g depth at node.head.rule node.head.size (attrs_of one)) ≡ tree_head g depth at one
head_is g st node (Node rule size attrs start end kids) depth at said =
    ap (λ r. line at [] (node_text g depth at r node.head.size attrs)) said.rule ∙ ap (λ n. line at [] (node_text g depth at rule n attrs)) said.size

-- a part of the input, by what a piece of it is
pub piece_is : (input : List ℕ) (depth from to : ℕ) (text : List ℕ) (at : ℕ) (bytes : List ℕ) → at ≡ from → bytes ≡ part input from to
    → piece depth at bytes text ≡ piece_of input depth from to text
piece_is input depth from to text at bytes is_at are = ap (λ k. piece depth k bytes text) is_at ∙ ap (λ these. piece depth from these text) are
