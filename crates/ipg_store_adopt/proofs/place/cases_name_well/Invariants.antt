use Rattle.std.proofs.Common.{◌≡◌, drop, flat_map}
use Rattle.std.specs.List.{list_all}
use Rattle.ipg_core.specs.Mention.{case_mentions}
use Rattle.ipg_store_adopt.specs.WellFormed as spec
use Rattle.ipg_store_adopt.specs.Place.{grammar_of}
use Rattle.ipg_store_adopt.proofs.place.cases_name_well.Given as goal

-- what is left answers as the whole
abbrev pub invariant-loop-case : goal.invariant-loop-case
invariant-loop-case l =
    let names = spec.is_good_mention (grammar_of l.place) l.place.holder l.place.terms.now l.u in
    list_all names (flat_map case_mentions (drop l.case-index l.cases)) ≡ list_all names (flat_map case_mentions l.cases)
