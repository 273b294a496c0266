use Rattle.std.proofs.Common.{◌≡◌, ◌++◌, length, drop}
use Rattle.ipg_names_scope.specs.Lookup.{shown}
use Rattle.ipg_names_scope.proofs.attrs.listed.Given as goal

abbrev pub invariant-loop-at : goal.invariant-loop-at
invariant-loop-at l = record {
  so_far : l.names.items ++ drop l.at (shown l.attrs.names) ≡ shown l.attrs.names;
  count_is : l.count ≡ length (shown l.attrs.names);
}
