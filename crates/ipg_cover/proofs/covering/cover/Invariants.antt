use Rattle.std.proofs.Common.{take}
use Rattle.ipg_cover.specs.Cover.{AreRefuted}
use Rattle.ipg_cover.proofs.covering.cover.Given as goal

-- those that were tried are refuted
abbrev pub invariant-loop-place : goal.invariant-loop-place
invariant-loop-place l = AreRefuted l.core l.marks.items (take l.place-index l.place-items) l.refutations
