use Rattle.std.proofs.Common.{◌≡◌, drop, flat_map}
use Rattle.ipg_names_scope.specs.Names.{once, rule_names}
use Rattle.ipg_names_scope.specs.Lookup.{shown}
use Rattle.ipg_names_scope.proofs.names.attr_names.Given as goal

abbrev pub invariant-loop-rule : goal.invariant-loop-rule
invariant-loop-rule l = once (shown l.names) (flat_map rule_names (drop l.rule-index l.rules)) ≡ once (shown l.initial.names) (flat_map rule_names l.rules)
