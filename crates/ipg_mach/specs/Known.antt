-- What is known of calls, as a memo holds it.
use Rattle.std.specs.Prelude.{◌≡◌, ◌-◌, Result, Ok, Err, Option, Some, None}
use Rattle.std.specs.FinMap as map
use Rattle.ipg_core.specs.Tree.{Tree}
use Rattle.ipg_core.specs.Within.{TreeWithin}
use Rattle.ipg_core.specs.Run.{Stop, NoTree}
use Rattle.ipg_mach_moves.specs.Moves as moves
use Rattle.ipg_mach_moves.specs.Moves.{find}
use Rattle.ipg_memo.specs.declared.memo.Key.{Key}
use Rattle.ipg_memo.specs.declared.memo.Entry.{Entry}
use Rattle.ipg_memo.specs.declared.memo.Entry.TheVariants as entry
use Rattle.ipg_memo.specs.Keyed.{Entries}
use Rattle.ipg_mach_nodes.specs.Stored.{Stored, Source, StandsTree}

-- a call by its three numbers
abbrev pub key_of : Key → moves.Key
key_of key = record { rule = key.rule; from = key.from; to = key.to }

-- what the memo has of a call is what is known of it: nothing, that it has no tree, or the tree that stands at a node
abbrev pub IsEntryOf : Source → Stored → Key → Option Entry → Option (Result Tree Stop) → Type 0
IsEntryOf src st key None None = Unit {0}
IsEntryOf src st key (Some entry.NoTree) (Some answer) = answer ≡ Err NoTree
IsEntryOf src st key (Some (entry.Node id)) (Some answer) =
    (one : Tree) × (answer ≡ Ok one) × StandsTree src st key.from id one × TreeWithin (key.to - key.from) one
IsEntryOf src st key None (Some answer) = ⊥
IsEntryOf src st key (Some entry) None = ⊥

-- what the memo has of each call is what is known of it; without a memo nothing is
abbrev pub IsKnown : Source → Stored → Option Entries → Option moves.Known → Type 0
IsKnown src st None None = Unit {0}
IsKnown src st (Some entries) (Some known) = (key : Key) → IsEntryOf src st key (map.get entries key) (find known (key_of key))
IsKnown src st None (Some known) = ⊥
IsKnown src st (Some entries) None = ⊥
