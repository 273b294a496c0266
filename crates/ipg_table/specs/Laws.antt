-- What holds of tables.
use Rattle.std.specs.Prelude.{◌≡◌}
use Rattle.ipg_core.specs.Grammar.{Grammar}
use Rattle.ipg_core.specs.Good.{Good}
use Rattle.ipg_table.specs.Rows.{Rows, StandFor}

-- tables that stand for a good grammar stand for no other
abbrev pub OneGrammar : Type 0
OneGrammar = (t : Rows) (g h : Grammar) → Good g → StandFor t g → StandFor t h → g ≡ h
