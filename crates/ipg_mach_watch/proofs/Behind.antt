-- What is found doesn't hang on how often an evaluation was moved once it had ended.
use Rattle.std.proofs.Common.{◌≡◌, ℕ, zero, suc, ◌+◌, refl, sym, ap, ◌∙◌, subst, arith, List, [], ◌∷◌, Option, Some, None, Result, Ok, Err}
use Rattle.std.proofs.lemmas.Option.{same_Some}
use Rattle.ipg_core.specs.Tree.{Tree}
use Rattle.ipg_core.specs.Run.{Stop, NoTree, OutOfRange, Deep}
use Rattle.ipg_mach_moves.specs.Moves.{OpenCall, Highest, Works, Holds, Evaluation, move_by, move, moves, opening, ended_by, ended}
use Rattle.ipg_mach_moves.specs.Laws.{EndsOnlySo}
use Rattle.ipg_mach_failures.specs.declared.story.Call.{Call}
use Rattle.ipg_mach_failures.specs.Furthest.{Furthest, stories, furthest}
use Rattle.ipg_mach_failures.specs.Laws.{NoneBehindEnd}
use Rattle.ipg_mach_watch.specs.Found.{Found, worked, last_worked, end_with, end_of, found_with, found_by}
use Rattle.ipg_mach_watch.specs.Laws.{OneFindings, IsEnd, EndIsMeant}

-- ---- one that has ended stays, and no call works

stays_by : (e : Evaluation) (highest : Highest) (lower : List OpenCall) (answer : Result Tree Stop) → e.lower ≡ lower → ended_by lower highest ≡ Some answer
    → move_by e highest ≡ e
stays_by e (Works c) lower answer is ends = absurd (cc)
stays_by e (Holds key (Err OutOfRange)) lower answer is ends = refl
stays_by e (Holds key (Ok tree)) [] answer is ends = rw is refl
stays_by e (Holds key (Ok tree)) (c ∷ lower) answer is ends = absurd (cc)
stays_by e (Holds key (Err NoTree)) [] answer is ends = rw is refl
stays_by e (Holds key (Err NoTree)) (c ∷ lower) answer is ends = absurd (cc)
stays_by e (Holds key (Err Deep)) [] answer is ends = rw is refl
stays_by e (Holds key (Err Deep)) (c ∷ lower) answer is ends = absurd (cc)

stays : (e : Evaluation) (answer : Result Tree Stop) → ended e ≡ Some answer → move e ≡ e
unfolding move
stays e answer ends = stays_by e e.highest e.lower answer refl ends

none_works : (last : Option Call) (lower : List OpenCall) (highest : Highest) (answer : Result Tree Stop) → ended_by lower highest ≡ Some answer
    → worked last highest ≡ last
none_works last lower (Works c) answer ends = absurd (cc)
none_works last lower (Holds key held) answer ends = refl

-- ---- however often it is moved then

late : (n k : ℕ) (e : Evaluation) (answer : Result Tree Stop) → ended (moves n e) ≡ Some answer → moves (n + k) e ≡ moves n e
unfolding moves
late zero zero e answer ends = refl
late zero (suc k) e answer ends =
    let same = stays e answer ends in
    let is : zero + k ≡ k = omega arith in
    let one : zero + suc k ≡ suc k = omega arith in
    ap (λ m. moves m e) one ∙ ap (moves k) same ∙ ap (λ m. moves m e) (sym is) ∙ late zero k e answer ends
late (suc n) k e answer ends =
    let is : suc n + k ≡ suc (n + k) = omega arith in
    ap (λ m. moves m e) is ∙ late n k (move e) answer ends

last_late : (n k : ℕ) (last : Option Call) (e : Evaluation) (answer : Result Tree Stop) → ended (moves n e) ≡ Some answer
    → last_worked last (n + k) e ≡ last_worked last n e
unfolding moves last_worked
last_late zero zero last e answer ends = refl
last_late zero (suc k) last e answer ends =
    let same = stays e answer ends in
    let is : zero + k ≡ k = omega arith in
    let one : zero + suc k ≡ suc k = omega arith in
    ap (λ m. last_worked last m e) one ∙ ap (λ l. last_worked l k (move e)) (none_works last e.lower e.highest answer ends)
    ∙ ap (last_worked last k) same ∙ ap (λ m. last_worked last m e) (sym is) ∙ last_late zero k last e answer ends
last_late (suc n) k last e answer ends =
    let is : suc n + k ≡ suc (n + k) = omega arith in
    ap (λ m. last_worked last m e) is ∙ last_late n k (worked last e.highest) (move e) answer ends

-- ---- what is found

module _ (none_behind : NoneBehindEnd) where
  found_late : (n k : ℕ) (e : Evaluation) (answer : Result Tree Stop) → ended (moves n e) ≡ Some answer → found_by (n + k) e ≡ found_by n e
  found_late n k e answer ends =
      ap (λ last. found_with (end_of last (ended (moves (n + k) e))) (furthest (stories (n + k) e))) (last_late n k None e answer ends)
      ∙ ap (λ x. found_with (end_of (last_worked None n e) (ended x)) (furthest (stories (n + k) e))) (late n k e answer ends)
      ∙ ap (λ met. found_with (end_of (last_worked None n e) (ended (moves n e))) (furthest met)) (none_behind e answer n k ends)

  -- where something is found, it has ended
  ended_so : (last : Option Call) (ends : Option (Result Tree Stop)) (f : Furthest) (one : Found) → found_with (end_of last ends) f ≡ Some one
      → (answer : Result Tree Stop) × (ends ≡ Some answer)
  ended_so last None f one e = absurd (cc)
  ended_so last (Some answer) f one e = (answer, refl)

  more_moves : (n k : ℕ) (e : Evaluation) (one : Found) → found_by n e ≡ Some one → found_by (n + k) e ≡ Some one
  more_moves n k e one is =
      let ends = ended_so (last_worked None n e) (ended (moves n e)) (furthest (stories n e)) one is in
      found_late n k e ends.0 ends.1 ∙ is

  pub one_findings : OneFindings
  one_findings g s a b first second =
      let e = opening g s (Some []) in
      let n = first.0 in let k = second.0 in
      let swap : n + k ≡ k + n = omega arith in
      same_Some a b (sym (more_moves n k e a first.1) ∙ ap (λ m. found_by m e) swap ∙ more_moves k n e b second.1)

-- ---- it ended as the grammar means

is_end : (last : Option Call) (answer : Result Tree Stop) (f : Furthest) (one : Found) → found_with (end_with last answer) f ≡ Some one → IsEnd one.end answer
is_end last (Ok tree) f one e = let is = same_Some _ one e in subst (λ (x : Found). IsEnd x.end (Ok tree)) is tt
is_end last (Err NoTree) f one e = let is = same_Some _ one e in subst (λ (x : Found). IsEnd x.end (Err NoTree)) is tt
is_end None (Err OutOfRange) f one e = absurd (cc)
is_end (Some call) (Err OutOfRange) f one e = let is = same_Some _ one e in subst (λ (x : Found). IsEnd x.end (Err OutOfRange)) is tt
is_end None (Err Deep) f one e = absurd (cc)
is_end (Some call) (Err Deep) f one e = absurd (cc)

pub by_end : (last : Option Call) (ends : Option (Result Tree Stop)) (f : Furthest) (one : Found) → found_with (end_of last ends) f ≡ Some one
    → (other : Result Tree Stop) × (ends ≡ Some other) × IsEnd one.end other
by_end last None f one e = absurd (cc)
by_end last (Some answer) f one e = (answer, refl, is_end last answer f one e)

pub end_is_meant : EndsOnlySo → EndIsMeant
end_is_meant only g s answer f means are =
    let e = opening g s (Some []) in
    let end = by_end (last_worked None are.0 e) (ended (moves are.0 e)) (furthest (stories are.0 e)) f are.1 in
    subst (IsEnd f.end) (only g s (Some []) answer end.0 are.0 tt means end.1) end.2
