use Rattle.std.proofs.Common.{map, drop, ◌+◌}
use Rattle.ipg_proof.proofs.Places.{Running}
use Rattle.ipg_proof.proofs.placing.other.Given as goal

-- what is left decides
abbrev pub invariant-loop-at : goal.invariant-loop-at
invariant-loop-at l =
    Running l.initial.cycles l.cycles l.from (l.from + l.at) (map (λ entry. entry.0) (drop l.at l.listed)) (map (λ entry. entry.0) l.listed)
