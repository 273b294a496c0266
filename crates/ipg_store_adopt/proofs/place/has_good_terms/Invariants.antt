use Rattle.std.proofs.Common.{◌≡◌, drop}
use Rattle.ipg_store_adopt.specs.WellFormed as spec
use Rattle.ipg_store_adopt.specs.Place.{grammar_of}
use Rattle.ipg_store_adopt.proofs.place.has_good_terms.Given as goal

-- what is left answers as the whole
abbrev pub invariant-loop-u : goal.invariant-loop-u
invariant-loop-u l =
    let is_good = spec.is_good_term (grammar_of l.place) l.place.at l.place.holder l.place.terms.now in
    spec.all_from is_good l.u (drop l.u l.place.terms.now) ≡ spec.all_from is_good 0 l.place.terms.now
