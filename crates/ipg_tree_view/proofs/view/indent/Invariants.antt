use Rattle.std.proofs.Common.{List, ℕ, ◌++◌, ◌*◌}
use Rattle.ipg_tree_view.specs.View as spec
use Rattle.ipg_tree_view.specs.Cutting.{Lacks}
use Rattle.ipg_tree_view.proofs.view.indent.Given as goal

abbrev pub invariant-loop-left : goal.invariant-loop-left
invariant-loop-left l = (end : List ℕ) → Lacks l.text (spec.indented l.depth end) (spec.blanks (2 * l.left) ++ end)

abbrev pub decreases-loop-left : goal.decreases-loop-left
decreases-loop-left l = l.left
