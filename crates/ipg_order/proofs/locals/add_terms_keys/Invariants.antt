use Rattle.std.proofs.Common.{◌≡◌, ◌++◌, drop}
use Rattle.std.specs.Prelude.{flat_map}
use Rattle.ipg_order.specs.Locals as spec
use Rattle.ipg_order.proofs.locals.add_terms_keys.Given as goal

-- those so far and those of what is left are all
abbrev pub invariant-loop-term : goal.invariant-loop-term
invariant-loop-term l = l.keys.items ++ flat_map (spec.term_keys l.terms l.rule) (drop l.term-index l.of) ≡ l.fn.keys.items ++ flat_map
    (spec.term_keys l.terms l.rule) l.of
