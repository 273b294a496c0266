use Rattle.std.proofs.Common.{◌≡◌}
use Rattle.ipg_core.specs.Tree.{Tree}
use Rattle.ipg_mach_nodes.specs.Stored.{Source}
use Rattle.ipg_tree_walk.specs.Parse.{steps_left}
use Rattle.ipg_tree_rows.specs.Rows.{rows_of}
use Rattle.ipg_tree_rows.specs.Sees.{IsTree}
use Rattle.ipg_tree_rows.proofs.Seeing.{SoFar}
use Rattle.ipg_tree_rows.proofs.collecting.add_rows.Given as goal

abbrev pub invariant-loop-visit : goal.invariant-loop-visit
invariant-loop-visit g l = record {
  parse : l.p.parse ≡ l.fn.p.parse;
  so_far : (src : Source) (one : Tree) → IsTree l.fn.p.parse src one → SoFar src l.p l.fn.rows.items l.rows.items (rows_of one);
}

abbrev pub decreases-loop-visit : goal.decreases-loop-visit
decreases-loop-visit g l = steps_left l.p
