-- What an evaluation has ended with, without its tree.
use Rattle.std.specs.Prelude.{Result, Ok, Err, Option, Some, None}
use Rattle.ipg_core.specs.Tree.{Tree}
use Rattle.ipg_core.specs.Run.{Stop, NoTree, OutOfRange, Deep}
use Rattle.ipg_mach.specs.declared.ended.Ended.{Ended}
use Rattle.ipg_mach.specs.declared.ended.Ended.TheVariants as kind

-- none while it goes on
abbrev pub ending_of : Option (Result Tree Stop) → Option Ended
ending_of None = None
ending_of (Some (Ok tree)) = Some kind.Tree
ending_of (Some (Err NoTree)) = Some kind.NoTree
ending_of (Some (Err OutOfRange)) = Some kind.Range
ending_of (Some (Err Deep)) = None
