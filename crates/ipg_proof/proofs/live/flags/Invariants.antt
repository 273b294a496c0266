use Rattle.std.proofs.Common.{◌≡◌, map, drop, replicate, false}
use Rattle.ipg_proof.specs.Calls.{with_set}
use Rattle.ipg_proof.proofs.live.flags.Given as goal

-- what is left to set leads to all that is set
abbrev pub invariant-loop-entry : goal.invariant-loop-entry
invariant-loop-entry l =
    with_set l.flags.items (map (λ entry. entry.0) (drop l.entry-index l.dead)) ≡ with_set (replicate l.edges false) (map (λ entry. entry.0) l.dead)
