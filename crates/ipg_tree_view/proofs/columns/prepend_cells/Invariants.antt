use Rattle.std.proofs.Common.{◌≡◌, ◌+◌, ◌*◌, ◌++◌, length}
use Rattle.ipg_tree_view.specs.View as spec
use Rattle.ipg_tree_view.proofs.columns.prepend_cells.Given as goal

abbrev pub invariant-loop-last : goal.invariant-loop-last
invariant-loop-last l = record {
  text : spec.cells l.left ++ l.line ≡ spec.cells l.bytes ++ l.initial.line;
  long : 3 * length l.left + length l.line ≡ 3 * length l.bytes + length l.initial.line;
}

abbrev pub decreases-loop-last : goal.decreases-loop-last
decreases-loop-last l = length l.left
