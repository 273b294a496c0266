use Rattle.ipg_formats.proofs.EachLemmas.{each-none, each-more}
use Rattle.ipg_formats.proofs.samples.fields.counters.Goals as goal

pub loop-i-init : goal.loop-i-init
loop-i-init c = each-none _ _

pub loop-i-preserved : goal.loop-i-preserved
loop-i-preserved c = each-more _ _ _ _ _ c.loop-i.invariant c.in_ok-push.ensures.items
