use Rattle.std.proofs.Common.{arith}
use Rattle.ipg_region.proofs.PiecesLemmas.{start_found}
use Rattle.ipg_region.proofs.block.start_of.Goals as goal

pub returns-else-place-eq0 : goal.returns-else-place-eq0
returns-else-place-eq0 c = start_found c.args.ends.now c.args.place (omega arith) c.requires
