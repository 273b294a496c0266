use Rattle.std.proofs.Common.{rules}
use Rattle.std.proofs.lemmas.List.{append_assoc}
use Rattle.std.proofs.lemmas.Result.{IfOk-equal}
use Rattle.ipg_formats.specs.Pe.{pe}
use Rattle.ipg_formats.proofs.samples.pe.write.Goals as goal

pub returns : goal.returns
unfolding pe
returns c = Prim.search (rules, IfOk-equal, append_assoc)
