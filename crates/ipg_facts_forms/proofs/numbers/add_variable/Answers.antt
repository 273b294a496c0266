use Rattle.std.proofs.Common.{ap, ◌∙◌}
use Rattle.ipg_facts_forms.proofs.Tables.{shown, shown_with}
use Rattle.ipg_facts_forms.proofs.numbers.add_variable.Goals as goal

pub returns : goal.returns
returns c = ap shown c.in_ok-insert.ensures.keys ∙ shown_with c.args.variables.now.keys c.args.variable
