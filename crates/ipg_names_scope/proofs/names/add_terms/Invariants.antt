use Rattle.std.proofs.Common.{◌≡◌, drop, flat_map}
use Rattle.ipg_names_scope.specs.Names.{once, term_names}
use Rattle.ipg_names_scope.specs.Lookup.{shown}
use Rattle.ipg_names_scope.proofs.names.add_terms.Given as goal

abbrev pub invariant-loop-term : goal.invariant-loop-term
invariant-loop-term l = once (shown l.names) (flat_map term_names (drop l.term-index l.terms)) ≡ once (shown l.initial.names) (flat_map term_names l.terms)
