use Rattle.std.proofs.Common.{◌≡◌, ◌++◌, drop}
use Rattle.std.specs.Prelude.{flat_map}
use Rattle.ipg_order.specs.Locals as spec
use Rattle.ipg_order.proofs.locals.add_alts_keys.Given as goal

-- those so far and those of what is left are all
abbrev pub invariant-loop-alt : goal.invariant-loop-alt
invariant-loop-alt l = l.keys.items ++ flat_map (spec.alt_keys l.terms l.rule) (drop l.alt-index l.alts) ≡ l.fn.keys.items ++ flat_map
    (spec.alt_keys l.terms l.rule) l.alts
