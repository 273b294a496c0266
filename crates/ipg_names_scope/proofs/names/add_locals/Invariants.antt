use Rattle.std.proofs.Common.{◌≡◌, drop, flat_map}
use Rattle.ipg_names_scope.specs.Names.{once, local_names}
use Rattle.ipg_names_scope.specs.Lookup.{shown}
use Rattle.ipg_names_scope.proofs.names.add_locals.Given as goal

abbrev pub invariant-loop-rule : goal.invariant-loop-rule
invariant-loop-rule l = once (shown l.names) (flat_map local_names (drop l.rule-index l.locals)) ≡ once (shown l.initial.names) (flat_map local_names l.locals)
