use Rattle.std.proofs.Common.{◌≡◌, drop}
use Rattle.ipg_mach_failures.specs.Values as spec
use Rattle.ipg_mach_failures.proofs.values.is_among.Given as goal

-- the name is among those that are left where it is there at all
abbrev pub invariant-loop-one : goal.invariant-loop-one
invariant-loop-one l = spec.is_among l.values l.operand ≡ spec.is_among (drop l.one-index l.values) l.operand
