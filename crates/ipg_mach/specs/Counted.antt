-- What has been counted, in numbers of 64 bits.
use Rattle.std.specs.Prelude.{◌≡◌, ◌-◌, ◌^◌, min}
use Rattle.ipg_mach_moves.specs.Moves.{Tally}
use Rattle.ipg_tree_walk.specs.declared.parsed.Counts.{Counts}

-- the counts are those of a tally, each at most 2^64 - 1
pub record IsTally (counts : Counts) (tally : Tally) : Type 0 where
  pub bodies : counts.bodies ≡ min tally.bodies (2 ^ 64 - 1)
  pub hits : counts.hits ≡ min tally.hits (2 ^ 64 - 1)
  pub deepest : counts.deepest ≡ min tally.deepest (2 ^ 64 - 1)
