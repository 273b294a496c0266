use Rattle.std.proofs.Common.{◌-◌, ◌≤◌, vec_len}
use Rattle.std.specs.Io.KnownBytes.{Consumes}
use Rattle.ipg_outside.proofs.disk.read_up_to.Given as goal

abbrev pub invariant-loop-chunk : goal.invariant-loop-chunk
invariant-loop-chunk g l = record {
  room : vec_len l.bytes ≤ l.wanted;
  chunk : 1 ≤ vec_len l.chunk;
  so_far : Consumes (g.F.Read.remaining l.initial.file) (g.F.Read.remaining l.file) l.bytes.items;
}

abbrev pub decreases-loop-chunk : goal.decreases-loop-chunk
decreases-loop-chunk g l = l.wanted - vec_len l.bytes
