use Rattle.std.proofs.Common.{◌≡◌, drop}
use Rattle.ipg_store_adopt.specs.WellFormed as spec
use Rattle.ipg_store_adopt.proofs.whole.have_good_alts.Given as goal

-- what is left answers as the whole
abbrev pub invariant-loop-number : goal.invariant-loop-number
invariant-loop-number l =
    let is_good = spec.has_good_alts (record { rules = l.rules; names = l.names }) in
    spec.all_from is_good l.number (drop l.number l.rules) ≡ spec.all_from is_good 0 l.rules
