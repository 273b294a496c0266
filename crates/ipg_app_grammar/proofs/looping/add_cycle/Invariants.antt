use Rattle.std.proofs.Common.{◌≡◌, ◌++◌, drop}
use Rattle.ipg_app_grammar.specs.Checks.{cycle_words}
use Rattle.ipg_app_grammar.proofs.looping.add_cycle.Given as goal

-- what is written, and what is left to write
abbrev pub invariant-loop-number : goal.invariant-loop-number
invariant-loop-number l = l.told.items ++ cycle_words l.fn.g (drop l.number-index l.cycle) ≡ l.fn.told.items ++ cycle_words l.fn.g l.cycle
