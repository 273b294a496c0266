-- What is read of rows, said of each child, of each list of children and of each tree that stands in them.
use Rattle.std.specs.Prelude.{◌≡◌, ℕ, List}
use Rattle.ipg_core.specs.Tree as tree
use Rattle.ipg_core.specs.Tree.{Tree, Kids, rule_of}
use Rattle.ipg_core.specs.Touch.{tree_ends}
use Rattle.ipg_region.specs.declared.region.RunId.{RunId}
use Rattle.ipg_mach_nodes.specs.declared.kid.Kid.{Kid}
use Rattle.ipg_mach_nodes.specs.declared.kid.Head.{Head}
use Rattle.ipg_mach_nodes.specs.Stored.{Stored, Source, StandsTree, StandsKid, StandKids}
use Rattle.ipg_table.specs.Rows.{Rows}

-- the fact holds of each child that stands in the row, wherever it does, its symbol being one of the tables
abbrev pub OfKid : Rows → Stored → Kid → (tree.Kid → Type 0) → Type 0
OfKid t st k Fact = (src : Source) → (at : ℕ) → (one : tree.Kid) → src.syms ≡ t.syms → StandsKid src st at k one → Fact one

abbrev pub OfKids : Rows → Stored → List Kid → (Kids → Type 0) → Type 0
OfKids t st ks Fact = (src : Source) → (at : ℕ) → (ones : Kids) → src.syms ≡ t.syms → StandKids src st at ks ones → Fact ones

abbrev pub OfTree : Stored → RunId → (Tree → Type 0) → Type 0
OfTree st id Fact = (src : Source) → (at : ℕ) → (one : Tree) → StandsTree src st at id one → Fact one

-- the head says what the tree says
pub record IsHead (head : Head) (one : Tree) : Type 0 where
  pub rule : head.rule ≡ rule_of one
  pub ends : record { start = head.start; end = head.end } ≡ tree_ends one
