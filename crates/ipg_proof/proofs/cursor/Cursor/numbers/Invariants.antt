use Rattle.std.proofs.Common.{◌-◌}
use Rattle.ipg_proof.specs.Texts.{number_text, IsShort}
use Rattle.ipg_proof.proofs.Readers.{ListGoes}
use Rattle.ipg_proof.proofs.Digits.{alone_short, one_short}
use Rattle.ipg_proof.proofs.Whole.{low}
use Rattle.ipg_proof.proofs.cursor.Cursor.numbers.Given as goal

-- what is left to read answers as the whole
abbrev pub invariant-loop-at : goal.invariant-loop-at
invariant-loop-at l = ListGoes IsShort (number_text 32) (alone_short 32 low) 1 one_short l.count l.initial.self.left.now l.numbers.items
    (l.count - l._at) l.self.left.now
