-- The law that a public function promises.
use Rattle.std.specs.Bool.{Decides}
use Rattle.ipg_core.specs.Grammar.{Grammar}
use Rattle.ipg_core.specs.Good.{WellFormed}
use Rattle.ipg_store_adopt.specs.WellFormed.{is_well_formed}

-- the test passes exactly where the grammar is well formed
abbrev pub TellsWellFormed : Type 0
TellsWellFormed = (g : Grammar) → Decides (is_well_formed g) (WellFormed g)
