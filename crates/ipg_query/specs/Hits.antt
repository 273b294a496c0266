-- That hits are what is picked, and of which trees.
use Rattle.std.specs.Prelude.{◌≡◌, ◌^◌, ◌≤◌, length}
use Rattle.ipg_core.specs.Grammar.{Grammar}
use Rattle.ipg_core.specs.Tree.{Tree}
use Rattle.ipg_core.specs.Within.{TreeWithin}
use Rattle.ipg_mach_nodes.specs.Stored.{Source, StandsTree}
use Rattle.ipg_table.specs.Rows.{StandFor}
use Rattle.ipg_tree_walk.specs.Parse.{Parse}
use Rattle.ipg_query.specs.declared.hit.Hit.{Hit}
use Rattle.ipg_query.specs.declared.hit.Hit.TheVariants as hit
use Rattle.ipg_query.specs.Picked.{Pick, Value, Part}

abbrev pub IsHit : Hit → Pick → Type 0
IsHit (hit.Value z) pick = pick ≡ Value z
IsHit (hit.Part from to bytes) pick = pick ≡ Part from to bytes.now

-- the tables of the parse stand for the grammar, and its symbols and its input are the source's
pub record Shares (parse : Parse) (src : Source) (g : Grammar) : Type 0 where
  pub tables : StandFor parse.tables g
  pub syms : src.syms ≡ parse.tables.syms
  pub input : src.input ≡ parse.input

-- the tree stands at the root, and within the input, which has at most 2^30 bytes
pub record IsTree (parse : Parse) (src : Source) (g : Grammar) (one : Tree) : Type 0 where
  pub shares : Shares parse src g
  pub stands : StandsTree src parse.store 0 parse.root one
  pub within : TreeWithin (length parse.input) one
  pub small : length parse.input ≤ 2 ^ 30
