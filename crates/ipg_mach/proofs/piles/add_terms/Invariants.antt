use Rattle.std.proofs.Common.{◌≡◌, ◌++◌, None, replicate}
use Rattle.ipg_mach.proofs.piles.add_terms.Given as goal

abbrev pub invariant-loop : goal.invariant-loop
invariant-loop g l = l.done.items ≡ l.fn.done.items ++ replicate l.counter None
