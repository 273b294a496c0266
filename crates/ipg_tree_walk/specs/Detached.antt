-- A parsed tree apart from what it was parsed by and from.
use Rattle.std.specs.Prelude.{◌≡◌, ◌≤◌, [], ◌∷◌, slice_get, Some}
use Rattle.ipg_region.specs.declared.region.RunId.{RunId}
use Rattle.ipg_mach_nodes.specs.declared.kid.Node.{Node}
use Rattle.ipg_mach_nodes.specs.Stored.{Stored}
use Rattle.ipg_tree_walk.specs.declared.parsed.Counts.{Counts}
use Rattle.ipg_tree_walk.specs.declared.detached.Detached.TheInside.{Inside}

-- what is stored, the root, and what was counted
pub record Apart : Type 0 where
  pub store : Stored
  pub root : RunId
  pub counts : Counts

module _ {A : Type 0} where
  abbrev pub apart : Inside A → Apart
  apart d = record { store = d.store; root = d.root; counts = d.counts }

  -- there is room for the levels of the root
  abbrev pub HasRoom : Inside A → Type 0
  HasRoom d = (node : Node) → slice_get d.store.nodes d.root.place ≡ Some (node ∷ []) → node.levels ≤ d.stack.room
