-- A region as a stack of blocks: the runs of each one after another, and room in the last.
use Rattle.std.specs.Prelude.{◌≡◌, ◌+◌, ◌^◌, ◌<◌, ◌≤◌, List, [], ◌∷◌, ◌++◌, length}
use Rattle.ipg_region.specs.Held.{Held}
use Rattle.ipg_region.specs.declared.blocks.Blocks.TheInside as blocks
use Rattle.ipg_region.specs.declared.region.Region.TheInside as region

-- the runs of all blocks
abbrev pub flat : {T : Type 0} → List (Held T) → List (List T)
flat [] = []
flat (block ∷ blocks) = block.runs ++ flat blocks

module _ {T A : Type 0} where
  abbrev pub held_in_blocks : blocks.Inside T A → Held T
  held_in_blocks a = record { runs = flat a.full.items ++ a.last.runs; spare = a.last.spare }

  -- the runs of the full blocks are counted, and the count leaves space for those of one block more
  abbrev pub IsCounted : blocks.Inside T A → Type 0
  IsCounted a = (a.before ≡ length (flat a.full.items)) × (a.before < 2 ^ 63)

  abbrev pub held_in_region : region.Inside T A → Held T
  held_in_region a = record { runs = a.blocks.runs; spare = record { runs = a.spare.runs; items = a.spare.items } }

  -- there is memory for what is spare, and a place of 32 bits for each run that is there or has room
  pub record IsCovered (a : region.Inside T A) : Type 0 where
    pub runs : a.spare.runs ≤ a.blocks.spare.runs
    pub items : a.spare.items ≤ a.blocks.spare.items
    pub places : length a.blocks.runs + a.spare.runs < 2 ^ 32
