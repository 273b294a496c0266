use Rattle.std.proofs.Common.{◌-◌}
use Rattle.ipg_reader.specs.Found.{text_at}
use Rattle.ipg_store_body.proofs.Loops.{Goes}
use Rattle.ipg_store_body.proofs.reading.BodyReader.names.Given as goal

abbrev pub invariant-loop-at : goal.invariant-loop-at
invariant-loop-at l = Goes text_at l.fn.self.bytes.left.now l.names.items (l.count - l._at) l.self.bytes.left.now
