use Rattle.std.proofs.Common.{◌≡◌, drop}
use Rattle.ipg_core.specs.MustTouch as spec
use Rattle.ipg_touch.proofs.marks.all_marked.Given as goal

-- what is left answers as the whole
abbrev pub invariant-loop-alt : goal.invariant-loop-alt
invariant-loop-alt l = spec.all_marked l.marks (drop l.alt-index l.alts) ≡ spec.all_marked l.marks l.alts
