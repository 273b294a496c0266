use Rattle.std.proofs.Common.{◌≡◌, map, drop}
use Rattle.ipg_proof.specs.Calls as spec
use Rattle.ipg_proof.specs.Proves.{first_false}
use Rattle.ipg_proof.specs.Seen.{seen}
use Rattle.ipg_proof.proofs.checking.unsound_edge.Given as goal

-- what is left answers as the whole
abbrev pub invariant-loop-at : goal.invariant-loop-at
invariant-loop-at l =
    first_false l.at (map (spec.edge_checks (seen l.calls)) (drop l.at l.dead)) ≡ first_false 0 (map (spec.edge_checks (seen l.calls)) l.dead)
