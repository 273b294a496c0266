-- What is left of a walk that goes deep first.
use Rattle.std.proofs.Common.{◌≡◌, ℕ, zero, suc, ◌+◌, ◌*◌, ◌<◌, ◌≤◌, List, [], ◌∷◌, Bool, true, false, length, get_or, set, arith}
use Rattle.std.proofs.Math.Nat.{add-mul}
use Rattle.std.proofs.lemmas.Bool.{true≢false}
use Rattle.ipg_graph_parts.specs.Finished.{unseen}

pub unseen-set : (seen : List Bool) (v : ℕ) → get_or seen v false ≡ false → v < length seen → unseen seen ≡ unseen (set seen v true) + 1
unseen-set [] v h below = absurd (omega arith)
unseen-set (true ∷ seen) zero h below = absurd (true≢false h)
unseen-set (false ∷ seen) zero h below = omega arith
unseen-set (true ∷ seen) (suc v) h below = unseen-set seen v h (omega arith)
unseen-set (false ∷ seen) (suc v) h below = omega (arith, unseen-set seen v h (omega arith))

-- a rule is entered, and no more than its edges' rules are to be entered next
pub entered : (edges before after old new : ℕ) → old ≡ new + 1 → after ≤ before + 1 + edges
    → after + new * (edges + 2) ≤ before + old * (edges + 2)
entered edges before after old new is few = rw (is, add-mul) (omega (arith, few))
