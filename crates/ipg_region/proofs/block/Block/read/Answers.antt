use Rattle.std.proofs.Common.{arith, length, ap}
use Rattle.ipg_region.proofs.PiecesLemmas.{length-pieces}
use Rattle.ipg_region.proofs.block.Block.read.Goals as goal

pub run_at-requires-clause-within : goal.run_at-requires-clause-within
run_at-requires-clause-within g c =
    omega (
      arith,
      length-pieces c.self.inside.items.items 0 c.self.inside.ends.items,
      ap (λ held. length held.runs) c.self.view_is,
      ap length c.deref-2.ensures.value,
    )
