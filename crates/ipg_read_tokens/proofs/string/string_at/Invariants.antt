use Rattle.std.proofs.Common.{◌≡◌, ◌-◌, ◌≤◌, length, drop}
use Rattle.ipg_read_tokens.specs.Lexical.{quoted, after_bytes}
use Rattle.ipg_read_tokens.proofs.string.string_at.Given as goal

abbrev pub decreases-loop-at : goal.decreases-loop-at
decreases-loop-at l = length l.initial.after - l.at

abbrev pub invariant-loop-at : goal.invariant-loop-at
invariant-loop-at l = (quoted 0 l.after ≡ after_bytes l.bytes.items l.at (quoted 0 (drop l.at l.after))) × (l.at ≤ length l.after)
