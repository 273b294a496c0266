-- How often a walk can go on at most: a row number is below 2^64.
use Rattle.std.specs.Prelude.{ℕ, ◌-◌, ◌^◌, List}
use Rattle.ipg_tree_walk.specs.declared.stack.Level.{Level}
use Rattle.ipg_tree_walk.specs.Falls.{steps_by}

abbrev pub left_of : Level → ℕ
left_of level = 2 ^ 64 - level.next

abbrev pub steps : ℕ → List Level → ℕ
steps = steps_by left_of
