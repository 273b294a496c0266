-- Moves one after another, and what is met in them; an evaluation that has ended meets the same however often it is moved.
use Rattle.std.proofs.Common.{◌≡◌, ℕ, zero, suc, ◌+◌, sym, ap, ◌∙◌, arith, ◌++◌, Some, Result}
use Rattle.ipg_core.specs.Tree.{Tree}
use Rattle.ipg_core.specs.Run.{Stop}
use Rattle.ipg_mach_moves.specs.Moves.{Evaluation, move, moves, ended}
use Rattle.ipg_mach_failures.specs.Furthest.{story_of, in_front, stories}
use Rattle.ipg_mach_failures.specs.Laws.{NoneBehindEnd}
use Rattle.ipg_mach_failure_laws.proofs.Settled.{front_both}

pub moves_more : (n k : ℕ) (e : Evaluation) → moves (n + k) e ≡ moves k (moves n e)
unfolding moves
moves_more zero k e = let is : zero + k ≡ k = omega arith in ap (λ m. moves m e) is
moves_more (suc n) k e = let is : suc n + k ≡ suc (n + k) = omega arith in ap (λ m. moves m e) is ∙ moves_more n k (move e)

pub stories_more : (n k : ℕ) (e : Evaluation) → stories (n + k) e ≡ stories n e ++ stories k (moves n e)
unfolding moves stories
stories_more zero k e = let is : zero + k ≡ k = omega arith in ap (λ m. stories m e) is
stories_more (suc n) k e =
    let is : suc n + k ≡ suc (n + k) = omega arith in
    ap (λ m. stories m e) is
    ∙ ap (in_front (story_of e)) (stories_more n k (move e))
    ∙ sym (front_both (story_of e) (stories n (move e)) (stories k (moves n (move e))))

-- ---- one that has ended

pub met_once : NoneBehindEnd → (n k : ℕ) (e : Evaluation) (answer other : Result Tree Stop) → ended (moves n e) ≡ Some answer
    → ended (moves k e) ≡ Some other → stories n e ≡ stories k e
met_once none n k e answer other one two =
    let late : n + k ≡ k + n = omega arith in
    sym (none e answer n k one) ∙ ap (λ m. stories m e) late ∙ none e other k n two
