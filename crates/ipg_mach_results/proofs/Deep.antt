-- How deep the lists of stored children lie.
use Rattle.std.proofs.Common.{◌≡◌, ℕ, ◌+◌, ◌≤◌, max, sym, subst, arith, true, [], ◌∷◌, Some, None}
use Rattle.std.specs.Prelude.{slice_get}
use Rattle.ipg_core.specs.Tree as tree
use Rattle.ipg_core.specs.Tree.{Tree, Kids, no_kids, kid, items_of}
use Rattle.ipg_region.specs.declared.region.RunId.{RunId}
use Rattle.ipg_mach_nodes.specs.declared.kid.Node.{Node}
use Rattle.ipg_mach_nodes.specs.Stored.{Stored, Source, StandsTree, tree_levels, kid_levels, kids_levels}
use Rattle.ipg_mach_results.specs.Flat.{has_items}

-- a node says its levels
pub said : (src : Source) (st : Stored) (at : ℕ) (id : RunId) (one : Tree) (node : Node) → StandsTree src st at id one
    → ((n : Node) → slice_get st.nodes id.place ≡ Some (n ∷ []) → Some node ≡ Some n) → tree_levels one ≤ node.levels
said src st at id (tree.Node rule size attrs start end kids) node h found =
    let e = found h.1.node h.1.is_node in
    let is : node ≡ h.1.node = cc in
    subst (λ (n : Node). kids_levels kids + 1 ≤ n.levels) (sym is) h.1.are_levels

pub is_there : (src : Source) (st : Stored) (at : ℕ) (id : RunId) (one : Tree) → StandsTree src st at id one
    → ((n : Node) → slice_get st.nodes id.place ≡ Some (n ∷ []) → None ≡ Some n) → tree_levels one ≤ 0
is_there src st at id (tree.Node rule size attrs start end kids) h found = let e = found h.1.node h.1.is_node in absurd (cc)

-- one child more, before the others
pub levels_more : (one : tree.Kid) (more ones : Kids) (a b m : ℕ) → m ≡ max a b → kid_levels one ≤ a → kids_levels more ≤ b → ones ≡ kid one more
    → kids_levels ones ≤ m
levels_more one more ones a b m is h k are = subst (λ ks. kids_levels ks ≤ m) (sym are) (omega arith)

-- an array or a repetition is a level above its items
pub levels_above : (one : tree.Kid) (n m : ℕ) → has_items one ≡ true → m ≡ n + 1 → kids_levels (items_of one) ≤ n → kid_levels one ≤ m
levels_above (tree.Array s items) n m e is h = omega arith
levels_above (tree.Many s items) n m e is h = omega arith
levels_above (tree.Sub from to sub) n m e is h = absurd (cc)
levels_above (tree.Token from to bytes) n m e is h = absurd (cc)
levels_above (tree.Number from to prim high low) n m e is h = absurd (cc)
levels_above (tree.Raw from to bytes) n m e is h = absurd (cc)

-- no children have no levels
pub none_deep : (ones : Kids) (m : ℕ) → ones ≡ no_kids → kids_levels ones ≤ m
none_deep ones m e = subst (λ ks. kids_levels ks ≤ m) (sym e) (omega arith)
