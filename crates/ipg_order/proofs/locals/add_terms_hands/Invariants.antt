use Rattle.std.proofs.Common.{◌≡◌, ◌++◌, drop}
use Rattle.std.specs.Prelude.{flat_map}
use Rattle.ipg_order.specs.Locals as spec
use Rattle.ipg_order.proofs.locals.add_terms_hands.Given as goal

-- those so far and those of what is left are all
abbrev pub invariant-loop-term : goal.invariant-loop-term
invariant-loop-term l = l.hands.items ++ flat_map (spec.term_hands l.rules l.rule) (drop l.term-index l.terms) ≡ l.fn.hands.items ++ flat_map
    (spec.term_hands l.rules l.rule) l.terms
