-- Objects as pieces behind pieces.
use Rattle.std.proofs.Common.{◌≡◌, ℕ, ◌+◌, ◌<◌, List, ◌∷◌, ◌++◌, length, get_or, drop, map, sym, ap, ◌∙◌, add-one, append_assoc, ℤ}
use Rattle.std.specs.Prelude.{decimal, codes}
use Rattle.std.proofs.Math.Seq.{drop-cons}
use Rattle.ipg_core.specs.Grammar.{Grammar}
use Rattle.ipg_core.specs.Lines.{rule_name}
use Rattle.ipg_core.specs.Touch.{Ends, tree_ends}
use Rattle.ipg_core.specs.Tree.{Tree, Node, rule_of, attrs_of}
use Rattle.ipg_tree_walk.specs.Visits.{size_of}
use Rattle.ipg_mach_nodes.specs.declared.kid.Node.{Node as Row}
use Rattle.ipg_mach_nodes.specs.Stored.{Stored}
use Rattle.ipg_tree.specs.Line.{Says}
use Rattle.ipg_tree.specs.Json.{joined, member, places, leaf, node_head}
use Rattle.ipg_tree.specs.JsonWalk.{led, tree_text}
use Rattle.ipg_tree.specs.declared.line.Places.{Places}

pub next_led : {X : Type 0} (f : X → List ℕ) (xs : List X) (i : ℕ) (d : X) → i < length xs
    → led (map f (drop i xs)) ≡ (44 ∷ f (get_or xs i d)) ++ led (map f (drop (i + 1) xs))
next_led f xs i d h = ap (λ xs. led (map f xs)) (drop-cons xs i d h ∙ ap (λ k. get_or xs i d ∷ drop k xs) (sym (add-one i)))

-- the first members of a leaf, and then the others
pub leaf_parts : (prim : List ℕ) (from to : ℕ) (first more : List ℕ) → leaf prim from to first ++ more ≡ leaf prim from to (first ++ more)
leaf_parts prim from to first more =
    let starts = codes "\",\"from\":" in
    let ends = codes ",\"to\":" in
    ap (λ t. codes "{\"prim\":\"" ++ t) (
    append_assoc prim (starts ++ (decimal from ++ (ends ++ (decimal to ++ first)))) more
    ∙ ap (λ t. prim ++ (starts ++ t)) (
    append_assoc (decimal from) (ends ++ (decimal to ++ first)) more
    ∙ ap (λ t. decimal from ++ (ends ++ t)) (append_assoc (decimal to) first more)))

-- what the members of a node say is its object
head_members : (g : Grammar) (at : ℕ) (one : Tree) (name : List ℕ) (from to start end from_start from_end : ℕ) (attrs : List (ℕ × ℤ))
    → name ≡ rule_name g (rule_of one) → from ≡ at → to ≡ at + size_of one → record { start = start; end = end } ≡ tree_ends one
    → from_start ≡ at + start → from_end ≡ at + end → attrs ≡ attrs_of one
    → codes "{\"rule\":\"" ++ (name ++ (places from to from_start from_end ++ (joined (map (member g) attrs) ++ codes "},\"kids\":["))) ≡ tree_text g at one
head_members g at (Node rule size sets s e kids) name from to start end from_start from_end attrs en ef et es efs efe ea =
    let is : start ≡ s = ap (λ (r : Ends). r.start) es in
    let ie : end ≡ e = ap (λ (r : Ends). r.end) es in
    let fs = efs ∙ ap (λ n. at + n) is in
    let fe = efe ∙ ap (λ n. at + n) ie in
    cc

-- the pieces of the object of a node
pub node_pieces : (g : Grammar) (st : Stored) (node : Row) (one : Tree) (at : ℕ) (name : List ℕ) (p : Places) (attrs : List (ℕ × ℤ))
    → Says st node one → name ≡ rule_name g node.head.rule → p.from ≡ at
    → (p.to ≡ at + node.head.size) × (p.start ≡ at + node.head.start) × (p.end ≡ at + node.head.end) → attrs ≡ attrs_of one
    → (codes "{\"rule\":\"" ++ (name ++ places p.from p.to p.start p.end)) ++ (joined (map (member g) attrs) ++ codes "},\"kids\":[") ≡ tree_text g at one
node_pieces g st node one at name p attrs said en ef (et, es, ee) ea =
    ap (λ t. codes "{\"rule\":\"" ++ t) (append_assoc name (places p.from p.to p.start p.end) (joined (map (member g) attrs) ++ codes "},\"kids\":["))
    ∙ head_members g at one name p.from p.to node.head.start node.head.end p.start p.end attrs (en ∙ ap (rule_name g) said.rule) ef
    (et ∙ ap (λ n. at + n) said.size) said.ends es ee ea
