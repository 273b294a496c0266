use Rattle.std.proofs.Common.{drop}
use Rattle.ipg_proof.proofs.Readers.{WordGoes}
use Rattle.ipg_proof.proofs.cursor.Cursor.word.Given as goal

-- what is left of the word answers as the whole
abbrev pub invariant-loop-b : goal.invariant-loop-b
invariant-loop-b l = WordGoes l.word l.initial.self.left.now (drop l.b-index l.word) l.self.left.now
