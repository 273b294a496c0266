-- What comes next of words and digits, and lines as pieces behind pieces.
use Rattle.std.proofs.Common.{◌≡◌, ℕ, ◌+◌, ◌<◌, ◌/◌, ◌%◌, List, [], ◌∷◌, ◌++◌, length, get_or, drop, map, refl, sym, ap, ◌∙◌, add-one, append_assoc}
use Rattle.std.proofs.Common.{suc, zero, ◌≤◌, ℤ, Option, None, Some, arith, subst}
use Rattle.std.specs.Prelude.{decimal, codes, slice_get}
use Rattle.std.proofs.Math.Seq.{drop-cons}
use Rattle.std.proofs.lemmas.Grind.{flat_map-append}
use Rattle.ipg_core.specs.declared.grammar.CoreRule.{CoreRule}
use Rattle.ipg_core.specs.Grammar.{Grammar}
use Rattle.ipg_core.specs.Lines.{line, rule_name, set_word, attr_word}
use Rattle.ipg_core.specs.Touch.{Ends, tree_ends}
use Rattle.ipg_core.specs.Tree.{Tree, Node, rule_of, attrs_of}
use Rattle.ipg_table.specs.declared.row.RuleRow.{RuleRow}
use Rattle.ipg_table.specs.Rows.{Rows, Each, HoldsRule}
use Rattle.ipg_tree_walk.specs.Visits.{size_of}
use Rattle.ipg_tree_walk.specs.declared.walk.Visit.{Visit}
use Rattle.ipg_mach_nodes.specs.declared.kid.Node.{Node as Row}
use Rattle.ipg_mach_nodes.specs.Stored.{Stored, Source}
use Rattle.ipg_tree_walk.specs.Left.{StandsNode}
use Rattle.ipg_tree.specs.Line.{Says, head_line}
use Rattle.ipg_tree.specs.declared.line.Places.{Places}
use Rattle.ipg_tree.specs.Words.{spaced, parted}

line_spaced : (w : List ℕ) (ws : List (List ℕ)) → line (w ∷ ws) ≡ w ++ (spaced ws ++ 10 ∷ [])
line_spaced w [] = refl
line_spaced w (x ∷ ws) = ap (λ l. w ++ 32 ∷ l) (line_spaced x ws ∙ sym (append_assoc x (spaced ws) (10 ∷ [])))

-- the first words of a line, and then the others
pub line_pieces : (ws : List (List ℕ)) (w : List ℕ) (more : List (List ℕ)) → parted ws [] ++ line (w ∷ more) ≡ line (ws ++ w ∷ more)
line_pieces [] w more = refl
line_pieces (v ∷ []) w more = append_assoc v (32 ∷ []) (line (w ∷ more))
line_pieces (v ∷ u ∷ ws) w more = append_assoc v (32 ∷ parted (u ∷ ws) []) (line (w ∷ more)) ∙ ap (λ l. v ++ 32 ∷ l) (line_pieces (u ∷ ws) w more)

-- the first words of a leaf's line
abbrev pub first_words : Visit → List ℕ → List (List ℕ)
first_words visit kind = decimal visit.depth ∷ kind ∷ decimal visit.from ∷ decimal visit.to ∷ []

-- the words of places
abbrev pub place_words : Places → List (List ℕ)
place_words p = decimal p.from ∷ decimal p.to ∷ set_word (codes "start") (decimal p.start) ∷ set_word (codes "end") (decimal p.end) ∷ []

-- the words of a line before its attributes
abbrev pub head_text : (depth name : List ℕ) (places : List (List ℕ)) → List ℕ
head_text depth name places = parted (depth ∷ []) (name ++ spaced places)

-- by parts
pub head_parts : (depth name : List ℕ) (places : List (List ℕ)) → parted (depth ∷ []) [] ++ (name ++ spaced places) ≡ head_text depth name places
head_parts depth name places = append_assoc depth (32 ∷ []) (name ++ spaced places)

-- the pieces of a line with attributes
attrs_pieces : (depth name : List ℕ) (places attrs : List (List ℕ))
    → head_text depth name places ++ (spaced attrs ++ 10 ∷ []) ≡ line (depth ∷ name ∷ (places ++ attrs))
attrs_pieces depth name places attrs =
    let rest = spaced attrs ++ 10 ∷ [] in
    append_assoc depth (32 ∷ (name ++ spaced places)) rest
    ∙ ap (λ t. depth ++ 32 ∷ t) (
    append_assoc name (spaced places) rest
    ∙ ap (λ t. name ++ t) (sym (append_assoc (spaced places) (spaced attrs) (10 ∷ []))
    ∙ ap (λ t. t ++ 10 ∷ []) (sym (flat_map-append (λ word. 32 ∷ word) places attrs)))
    ∙ sym (line_spaced name (places ++ attrs)))

-- what the words of a node say is its line
head_words : (g : Grammar) (depth at : ℕ) (one : Tree) (name : List ℕ) (to start end from_start from_end : ℕ) (attrs : List (ℕ × ℤ))
    → name ≡ rule_name g (rule_of one) → to ≡ at + size_of one
    → record { start = start; end = end } ≡ tree_ends one → from_start ≡ at + start → from_end ≡ at + end → attrs ≡ attrs_of one
    → line (decimal depth ∷ name ∷ decimal at ∷ decimal to ∷ set_word (codes "start") (decimal from_start) ∷ set_word (codes "end") (decimal from_end)
    ∷ map (attr_word g) attrs) ≡ head_line g depth at one
head_words g depth at (Node rule size sets s e kids) name to start end from_start from_end attrs en et es ef ee ea =
    let is : start ≡ s = ap (λ (r : Ends). r.start) es in
    let ie : end ≡ e = ap (λ (r : Ends). r.end) es in
    let fs = ef ∙ ap (λ n. at + n) is in
    let fe = ee ∙ ap (λ n. at + n) ie in
    cc

-- the pieces of the line of a node
pub row_pieces : (g : Grammar) (st : Stored) (node : Row) (one : Tree) (depth at : ℕ) (name : List ℕ) (places : Places) (attrs : List (ℕ × ℤ))
    → Says st node one → name ≡ rule_name g node.head.rule → places.from ≡ at
    → (places.to ≡ at + node.head.size) × (places.start ≡ at + node.head.start) × (places.end ≡ at + node.head.end) → attrs ≡ attrs_of one
    → head_text (decimal depth) name (place_words places) ++ (spaced (map (attr_word g) attrs) ++ 10 ∷ []) ≡ head_line g depth at one
row_pieces g st node one depth at name places attrs said en ef (et, es, ee) ea =
    attrs_pieces _ name (place_words places) (map (attr_word g) attrs)
    ∙ ap (λ from. line (decimal depth ∷ name ∷ decimal from ∷ decimal places.to ∷ set_word (codes "start") (decimal places.start)
    ∷ set_word (codes "end") (decimal places.end) ∷ map (attr_word g) attrs)) ef
    ∙ head_words g depth at one name places.to node.head.start node.head.end places.start places.end attrs (en ∙ ap (rule_name g) said.rule)
    (et ∙ ap (λ n. at + n) said.size) said.ends es ee ea

-- behind the last rule there is none
pub no_rule : (t : Rows) (rows : List RuleRow) (rules : List CoreRule) (r : ℕ) → Each (HoldsRule t) rows rules → length rows ≤ r → slice_get rules r ≡ None
no_rule t [] [] r each le = refl
no_rule t [] (rule ∷ rules) r each le = absurd each
no_rule t (row ∷ rows) [] r each le = refl
no_rule t (row ∷ rows) (rule ∷ rules) zero each le = absurd (omega (arith, le))
no_rule t (row ∷ rows) (rule ∷ rules) (suc r) each le = no_rule t rows rules r each.1 (omega (arith, le))
