use Rattle.std.proofs.Common.{◌-◌}
use Rattle.ipg_store_body.specs.Reading.{rule_at}
use Rattle.ipg_store_body.proofs.Loops.{Goes}
use Rattle.ipg_store_body.proofs.reading.BodyReader.rules.Given as goal

abbrev pub invariant-loop-at : goal.invariant-loop-at
invariant-loop-at l = Goes rule_at l.fn.self.bytes.left.now l.rules.items (l.count - l._at) l.self.bytes.left.now
