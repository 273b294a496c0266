use Rattle.std.proofs.Common.{◌≡◌, drop}
use Rattle.ipg_core.specs.Environment as spec
use Rattle.ipg_mach_results.proofs.attrs.value_at.Given as goal

-- what is left answers as the whole
abbrev pub invariant-loop-entry : goal.invariant-loop-entry
invariant-loop-entry l = spec.value_at (drop l.entry-index l.attrs) l.attr ≡ spec.value_at l.attrs l.attr
