use Rattle.std.proofs.Common.{◌≡◌, ◌++◌, drop}
use Rattle.std.specs.Prelude.{flat_map}
use Rattle.ipg_order.specs.Locals as spec
use Rattle.ipg_order.proofs.locals.add_names_keys.Given as goal

-- those so far and those of what is left are all
abbrev pub invariant-loop-name : goal.invariant-loop-name
invariant-loop-name l = l.keys.items ++ flat_map (spec.name_keys l.terms l.rule) (drop l.name-index l.names) ≡ l.fn.keys.items ++ flat_map
    (spec.name_keys l.terms l.rule) l.names
