use Rattle.std.proofs.Common.{◌≡◌, map, drop}
use Rattle.std.specs.Option.{option_copied}
use Rattle.ipg_outside.specs.Shelf.{told_in, told_in_from, told_found}
use Rattle.ipg_outside.specs.Stored.{name_and_bytes}
use Rattle.ipg_outside.proofs.stored.StoredFiles.find.Given as goal

abbrev pub invariant-loop-file : goal.invariant-loop-file
invariant-loop-file l = told_in_from l.name (told_found (option_copied l.found)) (map name_and_bytes (drop l.file-index l.file-items)) ≡ told_in l.name l.self
