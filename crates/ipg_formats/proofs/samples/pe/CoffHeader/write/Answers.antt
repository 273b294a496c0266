use Rattle.std.proofs.Common.{rules}
use Rattle.std.proofs.lemmas.List.{append_assoc}
use Rattle.std.proofs.lemmas.Result.{IfOk-equal}
use Rattle.ipg_formats.specs.Pe.{coff_header}
use Rattle.ipg_formats.proofs.samples.pe.CoffHeader.write.Goals as goal

pub returns : goal.returns
unfolding coff_header
returns c = Prim.search (rules, IfOk-equal, append_assoc)
