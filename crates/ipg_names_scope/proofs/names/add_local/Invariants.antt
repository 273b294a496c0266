use Rattle.std.proofs.Common.{◌≡◌, drop, flat_map}
use Rattle.ipg_names_scope.specs.Names.{once, local_alt_names}
use Rattle.ipg_names_scope.specs.Lookup.{shown}
use Rattle.ipg_names_scope.proofs.names.add_local.Given as goal

abbrev pub invariant-loop-alt : goal.invariant-loop-alt
invariant-loop-alt l = once (shown l.names) (flat_map local_alt_names (drop l.alt-index l.alt-items)) ≡ once (shown l.initial.names)
    (flat_map local_alt_names l.alt-items)
