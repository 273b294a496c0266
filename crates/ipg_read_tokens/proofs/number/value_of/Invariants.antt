use Rattle.std.proofs.Common.{◌≡◌, ◌^◌, ◌<◌, drop}
use Rattle.ipg_read_tokens.specs.Lexical.{value}
use Rattle.ipg_read_tokens.proofs.number.value_of.Given as goal

abbrev pub invariant-loop-digit : goal.invariant-loop-digit
invariant-loop-digit l = (value l.base 0 l.digits ≡ value l.base l.sum (drop l.digit-index l.digits)) × (l.sum < 2 ^ 63)
