-- An evaluation ends with what the grammar means, and stays.
use Rattle.std.proofs.Common.{◌≡◌, ◌≢◌, ◌<◌, ℕ, zero, suc, ◌+◌, refl, sym, ap, ◌∙◌, subst, arith, List, [], ◌∷◌, Option, Some, Result, Ok, Err, length}
use Rattle.ipg_core.specs.Grammar.{Grammar}
use Rattle.ipg_core.specs.Tree.{Tree}
use Rattle.ipg_core.specs.Run.{Stop, NoTree, OutOfRange, Deep}
use Rattle.ipg_core.specs.Meaning.{den}
use Rattle.ipg_core.specs.Laws.{HeightsAgree, LiesWithin}
use Rattle.ipg_mach_moves.specs.Moves.{Key, OpenCall, Highest, Works, Holds, Known, Evaluation, move_by, move, moves, opening, ended_by, ended}
use Rattle.ipg_mach_moves.specs.Laws.{AreRight, EndsAsMeant, EndsOnlySo, StaysRight, StaysWithin}
use Rattle.ipg_mach_moves.proofs.Parts.{whole_stands}
use Rattle.ipg_mach_moves.proofs.Paths.{Right, AllAlong, Path}
use Rattle.ipg_mach_moves.proofs.Running.{Arrives}
use Rattle.ipg_mach_moves.proofs.Meant.{calls_run}

-- ---- one that has ended stays

stays_by : (e : Evaluation) (highest : Highest) (lower : List OpenCall) (answer : Result Tree Stop) → e.lower ≡ lower → ended_by lower highest ≡ Some answer
    → move_by e highest ≡ e
stays_by e (Works c) [] answer is ends = absurd (cc)
stays_by e (Works c) (one ∷ lower) answer is ends = absurd (cc)
stays_by e (Holds key (Err OutOfRange)) lower answer is ends = refl
stays_by e (Holds key (Ok tree)) [] answer is ends = rw is refl
stays_by e (Holds key (Ok tree)) (c ∷ lower) answer is ends = absurd (cc)
stays_by e (Holds key (Err NoTree)) [] answer is ends = rw is refl
stays_by e (Holds key (Err NoTree)) (c ∷ lower) answer is ends = absurd (cc)
stays_by e (Holds key (Err Deep)) [] answer is ends = rw is refl
stays_by e (Holds key (Err Deep)) (c ∷ lower) answer is ends = absurd (cc)

stays : (e : Evaluation) (answer : Result Tree Stop) → ended e ≡ Some answer → move e ≡ e
unfolding move
stays e answer ends = stays_by e e.highest e.lower answer refl ends

stays_long : (n : ℕ) (e : Evaluation) (answer : Result Tree Stop) → ended e ≡ Some answer → moves n e ≡ e
unfolding moves
stays_long zero e answer ends = refl
stays_long (suc n) e answer ends = ap (moves n) (stays e answer ends) ∙ stays_long n e answer ends

moves_more : (n k : ℕ) (e : Evaluation) → moves (n + k) e ≡ moves k (moves n e)
unfolding moves
moves_more zero k e = let is : zero + k ≡ k = omega arith in ap (λ m. moves m e) is
moves_more (suc n) k e = let is : suc n + k ≡ suc (n + k) = omega arith in ap (λ m. moves m e) is ∙ moves_more n k (move e)

-- however often it is moved then
ended_late : (n k : ℕ) (e : Evaluation) (answer : Result Tree Stop) → ended (moves n e) ≡ Some answer → ended (moves (n + k) e) ≡ Some answer
ended_late n k e answer ends = ap ended (moves_more n k e ∙ stays_long k (moves n e) answer ends) ∙ ends

-- ---- it ends

record Ends (g : Grammar) (s : List ℕ) (bound : ℕ) (e : Evaluation) (answer : Result Tree Stop) : Type 0 where
  last : Evaluation
  ends : ended last ≡ Some answer
  path : Path g s bound e last

out_of_range : (lower : List OpenCall) (key : Key) → ended_by lower (Holds key (Err OutOfRange)) ≡ Some (Err OutOfRange)
out_of_range [] key = refl
out_of_range (c ∷ lower) key = refl

ends_by : (g : Grammar) (s : List ℕ) (bound : ℕ) (key : Key) (e : Evaluation) (answer : Result Tree Stop) → answer ≢ Err Deep
    → Arrives s bound g (Holds key) e [] answer → Ends g s bound e answer
ends_by g s bound key e (Ok tree) settled h = record { last = _; ends = refl; path = h.path }
ends_by g s bound key e (Err NoTree) settled h = record { last = _; ends = refl; path = h.path }
ends_by g s bound key e (Err OutOfRange) settled h =
    record { last = h.last; ends = ap (ended_by h.last.lower) h.is ∙ out_of_range h.last.lower h.key; path = h.path }
ends_by g s bound key e (Err Deep) settled h = absurd (settled refl)

not_none : (g : Grammar) (s : List ℕ) (height : ℕ) → den g height 0 s [] ≢ Err Deep → 0 < height
unfolding den
not_none g s zero settled = absurd (settled refl)
not_none g s (suc height) settled = omega arith

it_ends : HeightsAgree → LiesWithin → (g : Grammar) (s : List ℕ) (known : Option Known) (height : ℕ) → AreRight g s known → den g height 0 s [] ≢ Err Deep
    → Ends g s height (opening g s known) (den g height 0 s [])
unfolding opening
it_ends heights lies g s known height right settled =
    let key : Key = record { rule = 0; from = 0; to = 0 + length s } in
    let some = not_none g s height settled in
    ends_by g s height key _ _ settled
    ((calls_run s height heights lies g height).run 0 s 0 [] [] known _ (whole_stands s) (omega arith) (right, omega (arith, some)))

-- ---- laws

pub ends_as_meant : HeightsAgree → LiesWithin → EndsAsMeant
ends_as_meant heights lies g s known answer right means =
    let it = it_ends heights lies g s known means.height right (λ e. means.settled (sym means.is ∙ e)) in
    (it.path.count, ap ended it.path.is ∙ it.ends ∙ ap Some means.is)

pub ends_only_so : EndsAsMeant → EndsOnlySo
ends_only_so ends g s known answer other n right means has =
    let it = ends g s known answer right means in
    let one = ended_late n it.0 (opening g s known) other has in
    let same = ended_late it.0 n (opening g s known) answer it.1 in
    let late : n + it.0 ≡ it.0 + n = omega arith in
    let is = sym one ∙ ap (λ k. ended (moves k (opening g s known))) late ∙ same in
    cc

fit_along : (g : Grammar) (s : List ℕ) (bound m n : ℕ) (e last : Evaluation) (answer : Result Tree Stop) → moves m e ≡ last → ended last ≡ Some answer
    → AllAlong g s bound m e → Right g s bound (moves n e)
unfolding moves
fit_along g s bound zero zero e last answer is ends along = along
fit_along g s bound (suc m) zero e last answer is ends along = along.0
fit_along g s bound zero (suc n) e last answer is ends along = subst (Right g s bound) (sym (stays_long (suc n) e answer (ap ended is ∙ ends))) along
fit_along g s bound (suc m) (suc n) e last answer is ends along = fit_along g s bound m n (move e) last answer is ends along.1

fit_always : HeightsAgree → LiesWithin → (g : Grammar) (s : List ℕ) (known : Option Known) (height n : ℕ) → AreRight g s known → den g height 0 s [] ≢ Err Deep
    → Right g s height (moves n (opening g s known))
fit_always heights lies g s known height n right settled =
    let it = it_ends heights lies g s known height right settled in
    fit_along g s height it.path.count n (opening g s known) it.last _ it.path.is it.ends it.path.along

pub stays_right : HeightsAgree → LiesWithin → StaysRight
stays_right heights lies g s known answer n right means =
    (fit_always heights lies g s known means.height n right (λ e. means.settled (sym means.is ∙ e))).0

pub stays_within : HeightsAgree → LiesWithin → StaysWithin
stays_within heights lies g s known height n right settled = (fit_always heights lies g s known height n right settled).1
