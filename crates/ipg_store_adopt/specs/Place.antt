-- An alternative among the rules, as the code has it.
use Rattle.ipg_core.specs.Grammar.{Grammar}
use Rattle.ipg_store_adopt.specs.declared.place.AltPlace.{AltPlace}

-- the grammar that the rules and the names are
abbrev pub grammar_of : AltPlace → Grammar
grammar_of place = record { rules = place.rules.now; names = place.names.now }
