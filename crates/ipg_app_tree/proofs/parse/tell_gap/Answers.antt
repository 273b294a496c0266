use Rattle.std.proofs.Common.{inl}
use Rattle.ipg_app_text.specs.Lines.{said_of}
use Rattle.ipg_app_tree.proofs.parse.tell_gap.Goals as goal

pub returns-in-Ok : goal.returns-in-Ok
returns-in-Ok g c = inl (said_of c.in-Ok.settled, c.in-Ok.ensures, c.say.ensures)
