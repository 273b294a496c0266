use Rattle.std.proofs.Common.{length}
use Rattle.hex.specs.Hex.{encode_lower}
use Rattle.ipg_tree.specs.Putting.{Progress}
use Rattle.ipg_tree.proofs.words.put_digits.Given as goal

abbrev pub invariant-loop-left : goal.invariant-loop-left
invariant-loop-left g l =
    Progress (encode_lower l.bytes) (encode_lower l.left)
    (g.S.Sink.output l.initial.out) (g.S.Sink.faults l.initial.out) (g.S.Sink.output l.out) (g.S.Sink.faults l.out)

abbrev pub decreases-loop-left : goal.decreases-loop-left
decreases-loop-left g l = length l.left
