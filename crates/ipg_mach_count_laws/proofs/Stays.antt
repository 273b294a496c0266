-- An evaluation that has ended stays, so it ends in one way.
use Rattle.std.proofs.Common.{◌≡◌, ℕ, zero, suc, ◌+◌, refl, sym, ap, ◌∙◌, arith, List, [], ◌∷◌, Some, Result, Ok, Err}
use Rattle.ipg_core.specs.Tree.{Tree}
use Rattle.ipg_core.specs.Run.{Stop, NoTree, OutOfRange, Deep}
use Rattle.ipg_mach_moves.specs.Moves.{Key, OpenCall, Highest, Works, Holds, Evaluation, move_by, move, moves, ended_by, ended}
use Rattle.ipg_mach_count_laws.specs.Laws.{EndedStays}

stays_by : (e : Evaluation) (highest : Highest) (lower : List OpenCall) (answer : Result Tree Stop) → e.lower ≡ lower → ended_by lower highest ≡ Some answer
    → move_by e highest ≡ e
stays_by e (Works c) [] answer is ends = absurd (cc)
stays_by e (Works c) (one ∷ lower) answer is ends = absurd (cc)
stays_by e (Holds key (Err OutOfRange)) lower answer is ends = refl
stays_by e (Holds key (Ok tree)) [] answer is ends = rw is refl
stays_by e (Holds key (Ok tree)) (c ∷ lower) answer is ends = absurd (cc)
stays_by e (Holds key (Err NoTree)) [] answer is ends = rw is refl
stays_by e (Holds key (Err NoTree)) (c ∷ lower) answer is ends = absurd (cc)
stays_by e (Holds key (Err Deep)) [] answer is ends = rw is refl
stays_by e (Holds key (Err Deep)) (c ∷ lower) answer is ends = absurd (cc)

pub stays : EndedStays
unfolding moves move
stays zero e answer ends = refl
stays (suc n) e answer ends = ap (moves n) (stays_by e e.highest e.lower answer refl ends) ∙ stays n e answer ends

pub moves_more : (n k : ℕ) (e : Evaluation) → moves (n + k) e ≡ moves k (moves n e)
unfolding moves
moves_more zero k e = let is : zero + k ≡ k = omega arith in ap (λ m. moves m e) is
moves_more (suc n) k e = let is : suc n + k ≡ suc (n + k) = omega arith in ap (λ m. moves m e) is ∙ moves_more n k (move e)

pub ends_once : (n k : ℕ) (e : Evaluation) (answer other : Result Tree Stop) → ended (moves n e) ≡ Some answer → ended (moves k e) ≡ Some other
    → moves n e ≡ moves k e
ends_once n k e answer other one two =
    let late : n + k ≡ k + n = omega arith in
    sym (moves_more n k e ∙ stays k (moves n e) answer one) ∙ ap (λ m. moves m e) late ∙ moves_more k n e ∙ stays n (moves k e) other two

-- ---- from one to another by moves

pub record Goes (e end : Evaluation) : Type 0 where
  pub count : ℕ
  pub is : moves count e ≡ end

pub here : (e : Evaluation) → Goes e e
unfolding moves
here e = record { count = 0; is = refl }

pub goes_by : (e next end : Evaluation) → move e ≡ next → Goes next end → Goes e end
unfolding moves
goes_by e next end is goes = record { count = suc goes.count; is = ap (moves goes.count) is ∙ goes.is }

pub goes_on : (e middle end : Evaluation) → Goes e middle → Goes middle end → Goes e end
goes_on e middle end one other = record {
  count = one.count + other.count;
  is = moves_more one.count other.count e ∙ ap (moves other.count) one.is ∙ other.is;
}

-- ---- where an answer is held

-- one out of range ends the evaluation wherever it is held
abbrev pub Below : Result Tree Stop → List OpenCall → List OpenCall → Type 0
Below (Ok tree) low lower = low ≡ lower
Below (Err NoTree) low lower = low ≡ lower
Below (Err OutOfRange) low lower = Unit {0}
Below (Err Deep) low lower = low ≡ lower

pub ended_low : (lower : List OpenCall) (key : Key) (answer : Result Tree Stop) → Below answer lower [] → ended_by lower (Holds key answer) ≡ Some answer
ended_low [] key (Ok tree) is = refl
ended_low [] key (Err NoTree) is = refl
ended_low [] key (Err OutOfRange) is = refl
ended_low [] key (Err Deep) is = refl
ended_low (c ∷ lower) key (Ok tree) is = absurd (cc)
ended_low (c ∷ lower) key (Err NoTree) is = absurd (cc)
ended_low (c ∷ lower) key (Err OutOfRange) is = refl
ended_low (c ∷ lower) key (Err Deep) is = absurd (cc)

pub below_same : (answer : Result Tree Stop) (lower : List OpenCall) → Below answer lower lower
below_same (Ok tree) lower = refl
below_same (Err NoTree) lower = refl
below_same (Err OutOfRange) lower = tt
below_same (Err Deep) lower = refl
