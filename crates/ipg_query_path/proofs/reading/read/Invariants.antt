use Rattle.std.proofs.Common.{length, ◌-◌, ◌≡◌, ◌≤◌, drop}
use Rattle.ipg_reader.specs.Stepwise.{read_from}
use Rattle.ipg_query_path.specs.Reader.{start, step, ended}
use Rattle.ipg_query_path.specs.Reading.{seen}
use Rattle.ipg_query_path.proofs.reading.read.Given as goal

abbrev pub invariant-loop-next : goal.invariant-loop-next
invariant-loop-next l =
    (read_from step ended start 0 l.text ≡ read_from step ended (seen l.reader) l.next (drop l.next l.text)) × (l.next ≤ length l.text)

abbrev pub decreases-loop-next : goal.decreases-loop-next
decreases-loop-next l = length l.text - l.next
