use Rattle.ipg_table.proofs.OneGrammar as one
use Rattle.ipg_table.proofs.laws.one_grammar.Goals as goal

pub returns : goal.returns
returns c = one.one_grammar
