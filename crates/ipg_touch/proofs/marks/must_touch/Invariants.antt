use Rattle.ipg_touch.specs.Pass.{AreSound, unmarked}
use Rattle.ipg_touch.proofs.marks.must_touch.Given as goal

abbrev pub invariant-loop : goal.invariant-loop
invariant-loop l = AreSound l.g l.marks.items

-- each pass but the last marks a rule
abbrev pub decreases-loop : goal.decreases-loop
decreases-loop l = unmarked l.marks.items
