use Rattle.ipg_edit.proofs.Answering as answering
use Rattle.ipg_edit.proofs.session.Session.new.Goals as goal

pub returns-clause-knows : goal.returns-clause-knows
returns-clause-knows g c grammar stand good = answering.knows_nothing grammar c.args.tables.now c.in_ok-input.input.items stand good
