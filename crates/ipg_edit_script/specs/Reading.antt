-- A reader as its fields lie in memory.
use Rattle.ipg_edit_script.specs.declared.reading.Reader.{Reader}
use Rattle.ipg_edit_script.specs.Reader.{State}

abbrev pub seen : Reader → State
seen r = record { edits = r.edits.items; with = r.with.items; at = r.at }
