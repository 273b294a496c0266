use Rattle.ipg_graph.proofs.AnswersLemmas.{runs-are-whole}
use Rattle.ipg_graph.proofs.cycles.runs_are_whole.Goals as goal

pub returns : goal.returns
returns c = runs-are-whole
