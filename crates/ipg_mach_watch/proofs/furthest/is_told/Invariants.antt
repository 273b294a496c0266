use Rattle.std.proofs.Common.{◌≡◌, drop}
use Rattle.ipg_mach_failures.specs.Furthest as spec
use Rattle.ipg_mach_watch.proofs.furthest.is_told.Given as goal

-- one alike is told among those that are left where one is told at all
abbrev pub invariant-loop-one : goal.invariant-loop-one
invariant-loop-one l = spec.is_told l.told l.failure ≡ spec.is_told (drop l.one-index l.told) l.failure
