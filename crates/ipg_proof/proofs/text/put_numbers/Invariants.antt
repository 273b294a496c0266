use Rattle.std.proofs.Common.{◌≡◌, ◌++◌, drop}
use Rattle.std.specs.List.{flat_map}
use Rattle.ipg_proof.specs.Texts.{number_text}
use Rattle.ipg_proof.proofs.text.put_numbers.Given as goal

-- what is written, and what is left to write
abbrev pub invariant-loop-number : goal.invariant-loop-number
invariant-loop-number l = l.out.items ++ flat_map (number_text 32) (drop l.number-index l.numbers) ≡ l.fn.out.items ++ flat_map (number_text 32) l.numbers
