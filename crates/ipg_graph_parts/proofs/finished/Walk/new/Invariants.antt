use Rattle.std.proofs.Common.{◌<◌}
use Rattle.std.specs.List.{All}
use Rattle.ipg_graph_parts.specs.Finished.{rule_of}
use Rattle.ipg_graph_parts.proofs.finished.Walk.new.Given as goal

abbrev pub invariant-loop-rule : goal.invariant-loop-rule
invariant-loop-rule l = All (λ move. rule_of move < l.links.rules) l.moves.items
