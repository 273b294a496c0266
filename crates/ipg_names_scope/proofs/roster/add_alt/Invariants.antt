use Rattle.std.proofs.Common.{◌≡◌, ◌++◌, map, drop}
use Rattle.ipg_names_scope.specs.Roster.{local}
use Rattle.ipg_names_scope.specs.View.{entries_view}
use Rattle.ipg_names_scope.proofs.roster.add_alt.Given as goal

abbrev pub invariant-loop-rule : goal.invariant-loop-rule
invariant-loop-rule l =
    entries_view l.roster.items ++ map (local l.at.0 l.at.1 l.alt) (drop l.rule-index l.rule-items)
    ≡ entries_view l.initial.roster.items ++ map (local l.at.0 l.at.1 l.alt) l.rule-items
