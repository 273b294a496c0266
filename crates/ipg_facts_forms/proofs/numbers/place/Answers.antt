use Rattle.std.proofs.Common.{◌∙◌}
use Rattle.ipg_facts_forms.proofs.Tables.{found_there, found_nowhere}
use Rattle.ipg_facts_forms.proofs.numbers.place.Goals as goal

pub returns-in-Some : goal.returns-in-Some
returns-in-Some c = found_there c.args.variable.now c.args.variables.now.keys c.in-Some.place c.in-Some.ensures.index

pub returns-in-None : goal.returns-in-None
returns-in-None c = c.len.ensures.len ∙ found_nowhere c.args.variable.now c.args.variables.now.keys c.in-None.ensures.index
