use Rattle.std.proofs.Common.{◌≡◌, drop}
use Rattle.ipg_store_adopt.specs.WellFormed as spec
use Rattle.ipg_store_adopt.proofs.attrs.sets_once.Given as goal

-- what is left answers as the whole
abbrev pub invariant-loop-at : goal.invariant-loop-at
invariant-loop-at l = spec.sets_once (drop l.at l.terms) ≡ spec.sets_once l.terms
