use Rattle.std.proofs.Common.{length}
use Rattle.ipg_proof.specs.Numbers.{IsNumber}
use Rattle.ipg_proof.proofs.cursor.Cursor.number_within.Given as goal

abbrev pub invariant-loop-next : goal.invariant-loop-next
invariant-loop-next l = IsNumber l.least l.most l.fn.self.left.now l.self.left.now l.value

abbrev pub decreases-loop-next : goal.decreases-loop-next
decreases-loop-next l = length l.self.left.now
