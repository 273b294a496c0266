use Rattle.std.proofs.Common.{◌≡◌, ◌++◌}
use Rattle.ipg_formats.specs.Gif.{comments}
use Rattle.ipg_formats.proofs.samples.gif.write_comments.Given as goal

abbrev pub invariant-loop-i : goal.invariant-loop-i
invariant-loop-i l = l.out.items ≡ l.initial.out.items ++ comments l.i
