-- What a printed tree is printed by and from.
use Rattle.std.specs.Prelude.{◌≡◌}
use Rattle.ipg_core.specs.Grammar.{Grammar}
use Rattle.ipg_core.specs.Tree.{Tree}
use Rattle.ipg_mach_nodes.specs.Stored.{Source, StandsTree}
use Rattle.ipg_table.specs.Rows.{StandFor}
use Rattle.ipg_tree_walk.specs.Parse.{Parse}

-- the tables of the parse stand for the grammar, and its symbols and its input are the source's
pub record Shares (parse : Parse) (src : Source) (g : Grammar) : Type 0 where
  pub tables : StandFor parse.tables g
  pub syms : src.syms ≡ parse.tables.syms
  pub input : src.input ≡ parse.input

-- the tree stands at the root
pub record IsTree (parse : Parse) (src : Source) (g : Grammar) (one : Tree) : Type 0 where
  pub shares : Shares parse src g
  pub stands : StandsTree src parse.store 0 parse.root one
