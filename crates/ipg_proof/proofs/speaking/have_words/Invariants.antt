use Rattle.std.proofs.Common.{drop}
use Rattle.std.specs.List.{AllByRecursion}
use Rattle.ipg_proof.specs.Speaks.{HasWords}
use Rattle.ipg_proof.proofs.speaking.have_words.Given as goal

-- what is left being so, all is
abbrev pub invariant-loop-step : goal.invariant-loop-step
invariant-loop-step l = AllByRecursion HasWords (drop l.step-index l.r.steps) → AllByRecursion HasWords l.r.steps
