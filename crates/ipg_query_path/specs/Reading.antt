-- A reader as its fields lie in memory.
use Rattle.ipg_query_path.specs.declared.reading.Reader.{Reader}
use Rattle.ipg_query_path.specs.Reader.{State}

abbrev pub seen : Reader → State
seen r = record { steps = r.steps.items; name = r.name.items; at = r.at }
