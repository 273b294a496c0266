use Rattle.std.proofs.Common.{◌≡◌, drop}
use Rattle.ipg_lin.specs.Form.{rises}
use Rattle.ipg_lin.proofs.linear.rises.Given as goal

-- what is left rises from here on exactly where all of it rises
abbrev pub invariant-loop-term : goal.invariant-loop-term
invariant-loop-term l = rises l.from (drop l.term-index l.terms) ≡ rises 0 l.terms
