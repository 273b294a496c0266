-- A reader as its fields lie in memory.
use Rattle.ipg_cert.specs.declared.words.Reader.{Reader}
use Rattle.ipg_cert.specs.Reader.{State}

abbrev pub seen : Reader → State
seen r = record { made = r.made.items; entries = r.entries.items; open_trees = r.open_trees; pos = r.pos }
