use Rattle.std.proofs.Common.{map, drop}
use Rattle.ipg_proof.proofs.Places.{Rising}
use Rattle.ipg_proof.proofs.placing.off.Given as goal

-- what is left decides
abbrev pub invariant-loop-at : goal.invariant-loop-at
invariant-loop-at l = Rising l.edges l.low l.at (map (λ entry. entry.0) (drop l.at l.dead)) (map (λ entry. entry.0) l.dead)
