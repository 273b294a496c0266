use Rattle.std.proofs.Common.{◌≡◌, drop}
use Rattle.ipg_complete.specs.Lefts.{behind_items}
use Rattle.ipg_complete.proofs.left.Left.expr.Given as goal

abbrev pub invariant-loop-term : goal.invariant-loop-term
invariant-loop-term l = behind_items l.e (drop l.term-index l.term-items) ≡ l.self
