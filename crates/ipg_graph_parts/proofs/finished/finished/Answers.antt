use Rattle.std.proofs.Common.{length, ap, arith}
use Rattle.std.proofs.lemmas.List.{length_push}
use Rattle.ipg_graph_parts.proofs.finished.finished.Goals as goal

pub loop-next-preserved : goal.loop-next-preserved
loop-next-preserved c = c.in_ok-make.ensures.walk

pub loop-next-smaller : goal.loop-next-smaller
loop-next-smaller c =
    omega (arith, c.in_ok-make.ensures.less, ap length c.in-Some.ensures.items, length_push c.pop.new.self.items c.in-Some.next)
