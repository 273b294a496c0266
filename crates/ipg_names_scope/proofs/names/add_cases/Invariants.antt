use Rattle.std.proofs.Common.{◌≡◌, drop, flat_map}
use Rattle.ipg_names_scope.specs.Names.{once, case_names}
use Rattle.ipg_names_scope.specs.Lookup.{shown}
use Rattle.ipg_names_scope.proofs.names.add_cases.Given as goal

abbrev pub invariant-loop-case : goal.invariant-loop-case
invariant-loop-case l = once (shown l.names) (flat_map case_names (drop l.case-index l.cases)) ≡ once (shown l.initial.names) (flat_map case_names l.cases)
