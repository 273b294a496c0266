use Rattle.ipg_touch.specs.Pass.{AreSound}
use Rattle.ipg_touch.proofs.Passes.{Passing}
use Rattle.ipg_touch.proofs.marks.mark_more.Given as goal

abbrev pub invariant-loop-rule : goal.invariant-loop-rule
invariant-loop-rule l = record {
  sound : AreSound l.g l.marks.items;
  pass : Passing l.more l.g.rules l.rule l.fn.marks.items l.marks.items;
}
