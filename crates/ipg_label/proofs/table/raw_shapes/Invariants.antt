use Rattle.std.proofs.Common.{◌≡◌, ◌++◌, map, length}
use Rattle.ipg_label.specs.Labels as spec
use Rattle.ipg_label.proofs.table.raw_shapes.Given as goal

abbrev pub invariant-loop-alt : goal.invariant-loop-alt
invariant-loop-alt l = l.shapes.items ++ map (spec.shape l.names) l.left ≡ map (spec.shape l.names) l.rule.alts

abbrev pub decreases-loop-alt : goal.decreases-loop-alt
decreases-loop-alt l = length l.left
