-- What is kept after one move more.
use Rattle.std.proofs.Common.{◌≡◌, ℕ, arith, zero, suc, refl, sym, ap, ◌∙◌, subst, List, [], Option, Some, None, Result, Ok, Err, OnOk, IfOk}
use Rattle.ipg_core.specs.Tree.{Tree}
use Rattle.ipg_core.specs.Run.{Stop}
use Rattle.ipg_core.specs.Grammar.{Grammar}
use Rattle.ipg_mach_moves.specs.Moves.{Evaluation, Known, move, moves, ended, opening}
use Rattle.ipg_mach_nodes.specs.Stored.{Source}
use Rattle.ipg_mach.specs.declared.machine.Turn.{Turn}
use Rattle.ipg_mach.specs.declared.machine.Turn.TheVariants.{Done}
use Rattle.ipg_mach.specs.Stage.{Stage, IsAt}
use Rattle.ipg_mach.specs.Turning.{turn_of, HasGone}
use Rattle.ipg_mach_failures.specs.Chain.{calls_of}
use Rattle.ipg_mach_failures.specs.declared.story.Call.{Call}
use Rattle.ipg_mach_failures.specs.declared.story.Story.{Story}
use Rattle.ipg_mach_failures.specs.Furthest.{Furthest, story_of, in_front, stories, furthest_with, furthest_from, furthest, none_met}
use Rattle.ipg_mach_watch.specs.Found.{worked, last_worked}

pub one_more : (n : ℕ) (e : Evaluation) → moves (suc n) e ≡ move (moves n e)
unfolding moves
one_more zero e = refl
one_more (suc n) e = one_more n (move e)

-- one move at most is one
pub one_gone : (src : Source) (s : Stage) (e : Evaluation) (turn : Turn) → HasGone src s e 1 turn → IsAt src s (move e) × (turn ≡ turn_of (ended (move e)))
unfolding moves
one_gone src s e turn gone =
    let most = gone.within in
    let some = gone.some (omega arith) in
    let once : gone.moved ≡ 1 = omega (arith, most, some) in
    (subst (λ n. IsAt src s (moves n e)) once gone.at, subst (λ n. turn ≡ turn_of (ended (moves n e))) once gone.turned)

from_first : (f : Furthest) (one : Option Story) (met : List Story) → furthest_from f (in_front one met) ≡ furthest_from (furthest_with f one) met
from_first f None met = refl
from_first f (Some story) met = refl

one_met : (f : Furthest) (n : ℕ) (e : Evaluation)
    → furthest_from f (stories (suc n) e) ≡ furthest_with (furthest_from f (stories n e)) (story_of (moves n e))
unfolding moves stories
one_met f zero e = from_first f (story_of e) []
one_met f (suc n) e =
    from_first f (story_of e) (stories (suc n) (move e))
    ∙ one_met (furthest_with f (story_of e)) n (move e)
    ∙ ap (λ g. furthest_with g (story_of (moves n (move e)))) (sym (from_first f (story_of e) (stories n (move e))))

pub furthest_so : (n : ℕ) (e : Evaluation) → furthest (stories (suc n) e) ≡ furthest_with (furthest (stories n e)) (story_of (moves n e))
furthest_so n e = one_met none_met n e

worked_one : (last : Option Call) (n : ℕ) (e : Evaluation) → last_worked last (suc n) e ≡ worked (last_worked last n e) (moves n e).highest
unfolding moves last_worked
worked_one last zero e = refl
worked_one last (suc n) e = worked_one (worked last e.highest) n (move e)

pub worked_so : (n : ℕ) (e : Evaluation) → last_worked None (suc n) e ≡ worked (last_worked None n e) (moves n e).highest
worked_so n e = worked_one None n e

pub done_by : (ends : Option (Result Tree Stop)) → Done ≡ turn_of ends → (answer : Result Tree Stop) × (ends ≡ Some answer)
done_by None e = absurd (cc)
done_by (Some answer) e = (answer, refl)

-- a fact holds where there is a value, if it holds at all
pub always_ok : {A B P : Type 0} (r : Result A B) → P → OnOk r P
always_ok (Ok a) p = p
always_ok (Err b) p = tt

-- a fact of all holds where there is a value, if it holds of each there
pub of_all : {A B X : Type 0} (r : Result A B) (P : X → Type 0) (Q : A → X → Type 0) → ((x : X) → P x → IfOk r (λ a. Q a x))
    → IfOk r (λ a. (x : X) → P x → Q a x)
of_all (Ok a) P Q each = each
of_all (Err b) P Q each = tt

pub if_ok_weaker : {A B : Type 0} (r : Result A B) (P Q : A → Type 0) → ((a : A) → P a → Q a) → IfOk r P → IfOk r Q
if_ok_weaker (Ok a) P Q weaker p = weaker a p
if_ok_weaker (Err b) P Q weaker p = tt

-- as it is opened no call waits
pub none_open : (g : Grammar) (s : List ℕ) (known : Option Known) → calls_of (opening g s known) ≡ []
unfolding opening
none_open g s known = refl
