use Rattle.std.proofs.Common.{◌≡◌, drop}
use Rattle.ipg_c.specs.Handed.{found}
use Rattle.ipg_c.proofs.files.find.Given as goal

abbrev pub invariant-loop-file : goal.invariant-loop-file
invariant-loop-file l = found l.name (drop l.file-index l.files) ≡ found l.name l.files
