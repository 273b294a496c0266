use Rattle.std.proofs.Common.{◌≡◌, ◌++◌, drop}
use Rattle.ipg_proof.specs.Calls as spec
use Rattle.ipg_proof.specs.Seen.{seen}
use Rattle.ipg_proof.proofs.conditions.keeps.Given as goal

-- the conditions so far, and those of what is left
abbrev pub invariant-loop-edge : goal.invariant-loop-edge
invariant-loop-edge l = l.parts.items ++ spec.keeps (seen l.calls) (drop l.edge-index l.cycle) ≡ spec.keeps (seen l.calls) l.cycle
