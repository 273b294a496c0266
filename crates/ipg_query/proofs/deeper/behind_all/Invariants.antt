use Rattle.std.proofs.Common.{◌≡◌, [], ◌∷◌, length}
use Rattle.ipg_core.specs.Grammar.{Grammar}
use Rattle.ipg_query.specs.Picked.{Found, all_of, members}
use Rattle.ipg_query.proofs.deeper.behind_all.Given as goal

abbrev pub invariant-loop-rest : goal.invariant-loop-rest
invariant-loop-rest l = (g : Grammar) (x : Found) → all_of x ≡ x ∷ [] → members g l.left (x ∷ []) ≡ members g l.steps (x ∷ [])

abbrev pub decreases-loop-rest : goal.decreases-loop-rest
decreases-loop-rest l = length l.left
