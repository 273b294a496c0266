use Rattle.std.proofs.Common.{◌≡◌, drop}
use Rattle.ipg_core.specs.Eval as eval
use Rattle.ipg_mach_results.specs.Standing.{OfKids}
use Rattle.ipg_mach_results.proofs.items.last_end.Given as goal

-- what was gone over, from the back
abbrev pub invariant-loop-at : goal.invariant-loop-at
invariant-loop-at g l = OfKids l.tables l.store (drop l.at l.items) (λ ones. l.greatest ≡ eval.greatest_end ones)
