use Rattle.std.proofs.Common.{subst}
use Rattle.ipg_solve.specs.Decides.{Solves}
use Rattle.ipg_solve.proofs.candidate.solution.Goals as goal

pub returns-then-solves : goal.returns-then-solves
returns-then-solves c = subst (Solves c.args.f.now c.args.b.now) c.as_slice.ensures (c.solves.ensures c.if-solves.true)
