use Rattle.std.proofs.Common.{reverse}
use Rattle.ipg_solve.specs.Cuts.{Halved, work, start_domains}
use Rattle.ipg_solve.proofs.halving.halve.Given as goal

abbrev pub ghost-advance : goal.ghost-advance
ghost-advance a = a.root.b.now

abbrev pub invariant-loop-steps : goal.invariant-loop-steps
invariant-loop-steps l = Halved l.f l.b l.first l.domains.items (reverse l.cuts.items) l.steps.items

abbrev pub decreases-loop-steps : goal.decreases-loop-steps
decreases-loop-steps l = work l.first (start_domains 0 l.b.bounds) (reverse l.cuts.items)
