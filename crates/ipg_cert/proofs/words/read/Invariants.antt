use Rattle.std.proofs.Common.{length, ◌-◌, ◌≡◌, ◌+◌, ◌*◌, ◌^◌, ◌≤◌, drop}
use Rattle.ipg_cert.specs.Reader.{start, read_from, PosWithin}
use Rattle.ipg_cert.specs.Reading.{seen}
use Rattle.ipg_cert.proofs.words.read.Given as goal

abbrev pub invariant-loop-next : goal.invariant-loop-next
invariant-loop-next l =
    (read_from start 0 l.bytes ≡ read_from (seen l.reader) l.next (drop l.next l.bytes))
    × (l.next ≤ length l.bytes)
    × PosWithin l.reader.pos
    × (l.reader.open_trees ≤ l.next * 2 ^ 64 + 1)

abbrev pub decreases-loop-next : goal.decreases-loop-next
decreases-loop-next l = length l.bytes - l.next
