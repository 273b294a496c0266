use Rattle.std.proofs.Common.{sym, ◌∙◌}
use Rattle.ipg_cert.proofs.Root.{refuted}
use Rattle.ipg_cert.proofs.checking.check.Goals as goal

pub returns-clause-sound : goal.returns-clause-sound
returns-clause-sound c holds solution = refuted c.args.f.now c.args.b.now c.args.r.now (sym c.in_ok-on.ensures ∙ holds) solution
