use Rattle.std.proofs.Common.{refl}
use Rattle.ipg_app_tree.proofs.Meant.{printable}
use Rattle.ipg_app_tree.proofs.answering.put_lines.Goals as goal

pub returns-in-Ok : goal.returns-in-Ok
returns-in-Ok g c src grammar one h = (refl, c.in-Ok.ensures.lines src grammar one (printable _ src grammar one h))

pub returns-in-Err : goal.returns-in-Err
returns-in-Err g c src grammar one h = c.in-Err.ensures.lines src grammar one (printable _ src grammar one h)
