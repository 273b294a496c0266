use Rattle.ipg_facts_variables.specs.Equality as equality
use Rattle.ipg_facts_laws.proofs.laws.same_variables_are_equal.Goals as goal

pub returns : goal.returns
returns c = equality.same_variables_are_equal
