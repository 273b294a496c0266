use Rattle.std.proofs.Common.{drop}
use Rattle.std.specs.List.{AllByRecursion}
use Rattle.ipg_proof.specs.Speaks.{HaveWords}
use Rattle.ipg_proof.proofs.speaking.dead_have_words.Given as goal

-- what is left being so, all is
abbrev pub invariant-loop-entry : goal.invariant-loop-entry
invariant-loop-entry l = AllByRecursion (λ entry. HaveWords entry.1) (drop l.entry-index l.dead) → AllByRecursion (λ entry. HaveWords entry.1) l.dead
