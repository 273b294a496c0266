use Rattle.std.proofs.Common.{rules}
use Rattle.std.proofs.lemmas.List.{append_assoc}
use Rattle.std.proofs.lemmas.Result.{IfOk-equal}
use Rattle.ipg_formats.specs.Gif.{gif}
use Rattle.ipg_formats.proofs.samples.gif.write.Goals as goal

pub returns : goal.returns
unfolding gif
returns c = Prim.search (rules, IfOk-equal, append_assoc)
