use Rattle.std.proofs.Common.{sym, subst}
use Rattle.ipg_solve.specs.Decides.{Solves}
use Rattle.ipg_app_values.specs.Seen.{IsFound}
use Rattle.ipg_app_values.proofs.values.value_at.Goals as goal

pub sure-requires-clause-solves : goal.sure-requires-clause-solves
sure-requires-clause-solves c =
    subst (Solves c.args.c.now.formula c.args.c.now.bounds) (sym c.as_slice.ensures)
    (subst (IsFound c.args.c.now.formula c.args.c.now.bounds) c.in-Some.is c.requires.sound.found)
