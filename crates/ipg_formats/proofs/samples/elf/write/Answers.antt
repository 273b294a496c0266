use Rattle.std.proofs.Common.{rules}
use Rattle.std.proofs.lemmas.List.{append_assoc}
use Rattle.std.proofs.lemmas.Result.{IfOk-equal}
use Rattle.ipg_formats.specs.Elf.{elf}
use Rattle.ipg_formats.proofs.samples.elf.write.Goals as goal

pub returns : goal.returns
unfolding elf
returns c = Prim.search (rules, IfOk-equal, append_assoc)
