-- The JSON text of a tree, visit by visit: what is still to be closed follows from the visit before.
use Rattle.std.specs.Prelude.{ℕ, zero, suc, ◌+◌, ◌-◌, List, [], ◌∷◌, ◌++◌, codes, flat_map, nat_le, if◌then◌else◌}
use Rattle.ipg_core.specs.Grammar.{Grammar}
use Rattle.ipg_core.specs.Lines.{primitive_name}
use Rattle.ipg_core.specs.Tree as tree
use Rattle.ipg_core.specs.Tree.{Tree, Kid, Sub, Token, Number, Raw, Array, Many}
use Rattle.ipg_tree_walk.specs.Visits.{Seen}
use Rattle.ipg_tree.specs.Json.{node_head, leaf, value, terminal, raw, array_head, many_head, end}
use Rattle.ipg_tree.specs.declared.json.Last.{Last}
use Rattle.ipg_tree.specs.declared.json.Last.TheVariants.{Nothing, Whole, Opened}

-- texts, each behind a comma
abbrev pub led : List (List ℕ) → List ℕ
led texts = flat_map (λ text. 44 ∷ text) texts

-- the ends of so many objects
abbrev pub ends : ℕ → List ℕ
ends zero = []
ends (suc n) = end ++ ends n

-- what stands between the visit before and one at this depth
abbrev pub between : Last → ℕ → List ℕ
between Nothing depth = []
between (Whole last) depth = ends (last - depth) ++ 44 ∷ []
between (Opened last) depth = if nat_le depth last then end ++ (ends (last - depth) ++ 44 ∷ []) else []

-- what stands behind the last visit
abbrev pub closing : Last → List ℕ
closing Nothing = []
closing (Whole last) = ends last
closing (Opened last) = end ++ ends last

abbrev pub tree_text : Grammar → ℕ → Tree → List ℕ
tree_text g at (tree.Node rule size attrs start ends kids) = node_head g at rule size start ends attrs

-- the object of a visit, up to those in it
abbrev pub kid_text : Grammar → ℕ → Kid → List ℕ
kid_text g at (Sub from to sub) = tree_text g (at + from) sub
kid_text g at (Token from to bytes) = leaf (codes "tok") (at + from) (at + to) (terminal bytes)
kid_text g at (Number from to prim high low) = leaf (primitive_name prim) (at + from) (at + to) (value prim high low)
kid_text g at (Raw from to bytes) = leaf (codes "Bytes") (at + from) (at + to) (raw bytes)
kid_text g at (Array sym items) = array_head g sym
kid_text g at (Many sym items) = many_head g sym

abbrev pub kid_behind : ℕ → Kid → Last
kid_behind depth (Sub from to sub) = Opened depth
kid_behind depth (Token from to bytes) = Whole depth
kid_behind depth (Number from to prim high low) = Whole depth
kid_behind depth (Raw from to bytes) = Whole depth
kid_behind depth (Array sym items) = Opened depth
kid_behind depth (Many sym items) = Opened depth

-- the text of visits behind this one, and the line feed
abbrev pub texts_of : Grammar → Last → List Seen → List ℕ
texts_of g last [] = closing last ++ 10 ∷ []
texts_of g last (one ∷ more) =
    between last one.depth ++ (kid_text g one.at one.child ++ texts_of g (kid_behind one.depth one.child) more)
