use Rattle.std.proofs.Common.{rules}
use Rattle.std.proofs.lemmas.List.{append_assoc}
use Rattle.std.proofs.lemmas.Result.{IfOk-equal}
use Rattle.ipg_formats.specs.Pe.{dos_header}
use Rattle.ipg_formats.proofs.samples.pe.write_dos_header.Goals as goal

pub returns : goal.returns
unfolding dos_header
returns c = Prim.search (rules, IfOk-equal, append_assoc)
