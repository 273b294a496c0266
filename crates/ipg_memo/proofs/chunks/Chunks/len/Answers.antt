use Rattle.std.proofs.Common.{arith}
use Rattle.ipg_memo.proofs.ChunksLemmas.{bounded}
use Rattle.ipg_memo.proofs.chunks.Chunks.len.Goals as goal

pub returns-clause-small : goal.returns-clause-small
returns-clause-small g c =
    omega (arith, c.self.invariant.count, c.self.invariant.few, bounded c.self.inside.chunks.items c.self.invariant.packed)
