use Rattle.ipg_graph.proofs.ReachLemmas.{spreading-step, spreading-less}
use Rattle.ipg_graph.proofs.reach.Reach.fill.Goals as goal

pub loop-rule-smaller : goal.loop-rule-smaller
loop-rule-smaller c = spreading-less _ _ _ _ _ _ _ _ c.in-Some.ensures.items c.mark_callers.ensures.spreads c.mark_callers.ensures.sized.flags

pub loop-rule-preserved : goal.loop-rule-preserved
loop-rule-preserved c = record {
  sized = c.mark_callers.ensures.sized;
  spreading = spreading-step _ _ _ _ _ _ _ _ _ c.in-Some.ensures.items c.loop-rule.invariant.spreading c.mark_callers.ensures.spreads
      c.mark_callers.ensures.scanned;
}
