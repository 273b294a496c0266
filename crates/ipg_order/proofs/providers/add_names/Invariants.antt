use Rattle.std.proofs.Common.{◌≡◌, ◌++◌, drop}
use Rattle.std.specs.Prelude.{flat_map}
use Rattle.ipg_order.specs.Providers as spec
use Rattle.ipg_order.proofs.providers.add_names.Given as goal

-- those so far and those of what is left are all
abbrev pub invariant-loop-name : goal.invariant-loop-name
invariant-loop-name l = l.needs.items ++ flat_map (spec.name_needs l.of.terms.now l.of.number) (drop l.name-index l.names) ≡ l.fn.needs.items
    ++ flat_map (spec.name_needs l.of.terms.now l.of.number) l.names
