use Rattle.std.proofs.Common.{◌≡◌, ◌-◌, ◌≤◌, length, drop}
use Rattle.ipg_read_tokens.specs.Lexical.{large_first, lexed}
use Rattle.ipg_read_tokens.proofs.scan.past_large.Given as goal

abbrev pub decreases-loop-at : goal.decreases-loop-at
decreases-loop-at l = length l.text - l.at

abbrev pub invariant-loop-at : goal.invariant-loop-at
invariant-loop-at l =
    (large_first l.fn.large (lexed l.fn.from 0 (drop l.fn.from l.text)) ≡ large_first l.fn.large (lexed l.at 0 (drop l.at l.text))) × (l.at ≤ length l.text)
