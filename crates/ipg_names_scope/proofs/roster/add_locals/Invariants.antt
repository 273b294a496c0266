use Rattle.std.proofs.Common.{◌≡◌, ◌++◌, drop}
use Rattle.ipg_names_scope.specs.Roster.{locals_from}
use Rattle.ipg_names_scope.specs.View.{entries_view}
use Rattle.ipg_names_scope.proofs.roster.add_locals.Given as goal

abbrev pub invariant-loop-a : goal.invariant-loop-a
invariant-loop-a l = entries_view l.roster.items ++ locals_from l.rule l.a
    (drop l.a l.alts) ≡ entries_view l.initial.roster.items ++ locals_from l.rule 0 l.alts
