use Rattle.std.proofs.Common.{◌≡◌, ◌++◌, drop, length}
use Rattle.ipg_names_scope.specs.Roster.{roster_from}
use Rattle.ipg_names_scope.specs.View.{entries_view}
use Rattle.ipg_names_scope.proofs.roster.roster_of.Given as goal

abbrev pub invariant-loop-rule : goal.invariant-loop-rule
invariant-loop-rule l = entries_view l.roster.items ++ roster_from (length (entries_view l.roster.items)) (drop l.rule-index l.rules) ≡ roster_from 0 l.rules
