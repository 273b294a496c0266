use Rattle.std.proofs.Common.{◌≡◌, drop}
use Rattle.ipg_order.specs.Locals as spec
use Rattle.ipg_order.proofs.locals.setter.Given as goal

-- what is left answers as the whole
abbrev pub invariant-loop-number : goal.invariant-loop-number
invariant-loop-number l = spec.setter l.number (drop l.number l.terms) l.attr ≡ spec.setter 0 l.terms l.attr
