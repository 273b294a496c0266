use Rattle.std.proofs.Common.{◌≡◌, ◌+◌, ◌++◌, length, map}
use Rattle.ipg_tree_view.specs.View as spec
use Rattle.ipg_tree_view.proofs.columns.prepend_characters.Given as goal

abbrev pub invariant-loop-last : goal.invariant-loop-last
invariant-loop-last l = record {
  text : map spec.printable l.left ++ l.line ≡ map spec.printable l.bytes ++ l.initial.line;
  long : length l.left + length l.line ≡ length l.bytes + length l.initial.line;
}

abbrev pub decreases-loop-last : goal.decreases-loop-last
decreases-loop-last l = length l.left
