use Rattle.std.proofs.Common.{◌≡◌, ◌+◌, drop}
use Rattle.ipg_read_tokens.specs.Lexical.{run}
use Rattle.ipg_read_tokens.proofs.class.Class.run.Given as goal

abbrev pub invariant-loop-i : goal.invariant-loop-i
invariant-loop-i l = run l.self l.bytes ≡ l.i + run l.self (drop l.i l.bytes)
