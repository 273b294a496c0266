use Rattle.std.proofs.Common.{◌≡◌, ◌-◌, ◌≤◌, length, drop}
use Rattle.ipg_read_tokens.specs.Lexical.{lexed}
use Rattle.ipg_read_tokens.specs.Scanning.{after_tokens}
use Rattle.ipg_read_tokens.proofs.scan.tokens.Given as goal

abbrev pub decreases-loop-at : goal.decreases-loop-at
decreases-loop-at l = length l.text - l.at

abbrev pub invariant-loop-at : goal.invariant-loop-at
invariant-loop-at l = (lexed 0 0 l.text ≡ after_tokens l.found.items (lexed l.at 0 (drop l.at l.text))) × (l.at ≤ length l.text)
