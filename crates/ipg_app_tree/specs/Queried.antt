-- What is shown of what a path picks: a line for each part and each value.
use Rattle.std.specs.Prelude.{ℕ, List, [], ◌∷◌, decimal, flat_map}
use Rattle.std.specs.Fmt.{signed_decimal}
use Rattle.ipg_core.specs.Lines.{line, hex}
use Rattle.ipg_query.specs.Picked.{Pick, Value, Part}

-- the ends of a part and all of its bytes; or a value alone
abbrev pub pick_line : Pick → List ℕ
pick_line (Value z) = line (signed_decimal z ∷ [])
pick_line (Part from to bytes) = line (decimal from ∷ decimal to ∷ hex bytes ∷ [])

abbrev pub picks_text : List Pick → List ℕ
picks_text picks = flat_map pick_line picks
