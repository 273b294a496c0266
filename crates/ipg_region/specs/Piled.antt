-- A stack as full blocks, and the block on top of them.
use Rattle.std.specs.Prelude.{◌≡◌, ◌^◌, ◌<◌, List, [], ◌∷◌, ◌++◌, length}
use Rattle.ipg_region.specs.Stacked.{Stacked}
use Rattle.ipg_region.specs.declared.stack.Full.{Full}
use Rattle.ipg_region.specs.declared.stack.Stack.TheInside.{Inside}

module _ {T A : Type 0} where
  -- the items of full blocks
  abbrev pub items_of : List (Full T A) → List T
  items_of [] = []
  items_of (block ∷ blocks) = block.below.items ++ block.last ∷ items_of blocks

  abbrev pub stacked_in : Inside T A → Stacked T
  stacked_in a = record { items = items_of a.full.items ++ a.top.items }

  -- the items of the full blocks are counted, and the count leaves space for those of one block more
  abbrev pub AreCounted : Inside T A → Type 0
  AreCounted a = (a.before ≡ length (items_of a.full.items)) × (a.before < 2 ^ 63)
