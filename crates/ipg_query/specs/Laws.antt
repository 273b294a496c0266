-- What holds of what is picked, whatever grammar, path and tree they are.
use Rattle.std.specs.Prelude.{ℕ, ◌≤◌, List, [], ◌∷◌}
use Rattle.std.specs.List.{AllByRecursion}
use Rattle.ipg_core.specs.Grammar.{Grammar}
use Rattle.ipg_core.specs.Tree.{Tree}
use Rattle.ipg_mach_nodes.specs.Stored.{kid_levels, tree_levels}
use Rattle.ipg_tree_walk.specs.Visits.{whole}
use Rattle.ipg_query_path.specs.declared.path.Step.{Step}
use Rattle.ipg_query.specs.Picked.{Found, found, members}

-- so many lists lie within one another at most in a result
abbrev pub IsShallow : ℕ → Found → Type 0
IsShallow n x = kid_levels x.child ≤ n

abbrev pub AreShallow : ℕ → List Found → Type 0
AreShallow n xs = AllByRecursion (IsShallow n) xs

-- what steps come to in a tree has no more of them than the tree
abbrev pub MembersAreShallow : Type 0
MembersAreShallow = (g : Grammar) (steps : List Step) (one : Tree) → AreShallow (tree_levels one) (members g steps (found 0 (whole one) ∷ []))
