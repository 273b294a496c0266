-- Where a value leaves its range with a memo it does so without one.
use Rattle.std.proofs.Common.{◌≡◌, ◌⊎◌, inl, inr, ℕ, zero, suc, ◌+◌, refl, sym, ap, ◌∙◌, subst, arith, List, [], ◌∷◌, drop}
use Rattle.std.proofs.Common.{Option, Some, None, Result, Ok, Err}
use Rattle.std.proofs.Common.{length}
use Rattle.ipg_core.specs.declared.grammar.CoreAlt.{CoreAlt}
use Rattle.ipg_core.specs.Grammar.{Grammar}
use Rattle.ipg_core.specs.Tree.{Tree}
use Rattle.ipg_core.specs.Run.{Stop, NoTree, OutOfRange, Deep, Asked}
use Rattle.ipg_core.specs.Meaning.{Frame, State, start}
use Rattle.ipg_mach_moves.specs.Moves.{Outside, OpenCall, Highest, Works, Known, Evaluation, Tally, Advance, Inside, Past, find, runs_on, begins}
use Rattle.ipg_mach_moves.specs.Moves.{turned, silent, asked_key, at_hand, move, moves, opening, ended_by, ended}
use Rattle.ipg_mach_moves.specs.Laws.{ParsesByOneCall}
use Rattle.ipg_mach_failures.specs.Furthest.{Furthest}
use Rattle.ipg_mach_failure_laws.specs.Laws.{new_memo, RangeLeftAlikeByMemo}
use Rattle.ipg_mach_count_laws.specs.Laws.{EndedStays}
use Rattle.ipg_mach_count_laws.specs.Standing.{CallsSit, StandsThere}
use Rattle.ipg_mach_failure_laws.proofs.Stays.{moves_more}
use Rattle.ipg_mach_failure_laws.proofs.Leads.{bare}
use Rattle.ipg_mach_failure_laws.proofs.Known.{GoesDown, found}
use Rattle.ipg_mach_failure_laws.proofs.Range.{hand_down}
use Rattle.ipg_mach_failure_laws.proofs.Step.{memoed, quiet_bare, quiet_memo, opens_memo, known_memo, Stands}
use Rattle.ipg_mach_failure_laws.proofs.Beside.{beside}

abbrev Leaves : List OpenCall → Highest → Type 0
Leaves lower highest = ended_by lower highest ≡ Some (Err OutOfRange)

-- ---- which highest call has left its range

runs_stay : (lower : List OpenCall) (c : OpenCall) (state : State) (left : List ℕ) → Leaves lower (runs_on c state left) → ⊥
runs_stay lower c state (u ∷ left) e = absurd (cc)
runs_stay [] c state [] e = absurd (cc)
runs_stay (one ∷ lower) c state [] e = absurd (cc)

begins_stay : (lower : List OpenCall) (f : Frame) (from : ℕ) (alts : List CoreAlt) → Leaves lower (begins f from alts) → ⊥
begins_stay [] f from [] e = absurd (cc)
begins_stay (one ∷ lower) f from [] e = absurd (cc)
begins_stay lower f from (alt ∷ alts) e =
    let fresh = start (length alt.terms) in
    runs_stay lower (record { frame = f; from = from; terms = alt.terms; alts = alts; state = fresh; left = []; entry = Outside }) fresh alt.order e

turned_stay : (lower : List OpenCall) (c : OpenCall) (answer : Result Advance Stop) → GoesDown answer → Leaves lower (turned c answer) → ⊥
turned_stay lower c (Ok (Inside entry)) down e = absurd (cc)
turned_stay lower c (Ok (Past state)) down e = runs_stay lower c state (drop 1 c.left) e
turned_stay lower c (Err NoTree) down e = begins_stay lower (record c.frame { alt = c.frame.alt + 1 }) c.from c.alts e
turned_stay lower c (Err OutOfRange) down e = absurd down
turned_stay [] c (Err Deep) down e = absurd (cc)
turned_stay (one ∷ lower) c (Err Deep) down e = absurd (cc)

-- ---- the move by which it does

module _ (g : Grammar) (s : List ℕ) (one : ParsesByOneCall) where
  module _ (f : Furthest) (c : OpenCall) (lower : List OpenCall) (known : Known) (tally before : Tally) (stands : Stands g s f lower (Works c) known)
      (leaves : ended (move (memoed lower (Works c) known tally)) ≡ Some (Err OutOfRange)) where
    abbrev Does : Type 0
    Does = ended (move (bare lower (Works c) before)) ≡ Some (Err OutOfRange)

    by_quiet : (at_hand silent c).asked ≡ [] → Does
    by_quiet none = ap ended (quiet_bare c lower none before).1 ∙ sym (ap ended (quiet_memo c lower known tally none)) ∙ leaves

    by_ask : (ask : Asked) (more : List Asked) → (at_hand silent c).asked ≡ ask ∷ more → (answer : Option (Result Tree Stop))
        → find known (asked_key c ask) ≡ answer → Does
    by_ask ask more asked None new =
        let goes = opens_memo g s c lower ask more asked stands.is.grammar known tally new in
        absurd (begins_stay (c ∷ lower) _ _ _ (sym (ap ended goes.1) ∙ leaves))
    by_ask ask more asked (Some answer) has =
        let entry = found g s f known (asked_key c ask) answer stands.knows has in
        let goes = known_memo g s c lower ask more asked known tally answer has in
        absurd (turned_stay lower c _ (hand_down one c answer entry.down ask more asked) (sym (ap ended goes) ∙ leaves))

    by_asked : (asked : List Asked) → (at_hand silent c).asked ≡ asked → Does
    by_asked [] none = by_quiet none
    by_asked (ask ∷ more) asked = by_ask ask more asked _ refl

    does : Does
    does = by_asked _ refl

-- ---- it does so once

works_on : (e : Evaluation) (c : OpenCall) (answer : Result Tree Stop) → e.highest ≡ Works c → ended e ≡ Some answer → ⊥
works_on e c answer works ends = let on : None ≡ Some answer = sym (ap (ended_by e.lower) works) ∙ ends in absurd (cc)

abbrev Order : ℕ → ℕ → Type 0
Order n m = (n ≡ m) ⊎ (((d : ℕ) × (m ≡ (n + 1) + d)) ⊎ ((d : ℕ) × (n ≡ (m + 1) + d)))

order : (n m : ℕ) → Order n m
order zero zero = inl refl
order zero (suc m) = inr (inl (m, omega arith))
order (suc n) zero = inr (inr (n, omega arith))
order (suc n) (suc m) = later (order n m)
  where
    later : Order n m → Order (suc n) (suc m)
    later (inl e) = inl (ap suc e)
    later (inr (inl h)) = let e = h.1 in inr (inl (h.0, omega (arith, e)))
    later (inr (inr h)) = let e = h.1 in inr (inr (h.0, omega (arith, e)))

never_later : EndedStays → (e : Evaluation) (c : OpenCall) (n m d : ℕ) → ended (moves (n + 1) e) ≡ Some (Err OutOfRange) → (moves m e).highest ≡ Works c
    → m ≡ (n + 1) + d → ⊥
never_later stays e c n m d leaves works is =
    let same : moves m e ≡ moves (n + 1) e = ap (λ k. moves k e) is ∙ moves_more (n + 1) d e ∙ stays d (moves (n + 1) e) _ leaves in
    works_on (moves m e) c _ works (ap ended same ∙ leaves)

once : EndedStays → (e : Evaluation) (c other : OpenCall) (n m : ℕ) → (moves n e).highest ≡ Works c → ended (moves (n + 1) e) ≡ Some (Err OutOfRange)
    → (moves m e).highest ≡ Works other → ended (moves (m + 1) e) ≡ Some (Err OutOfRange) → n ≡ m
once stays e c other n m works leaves also too =
    elim (order n m) [
      | inl same ↦ same
      | inr apart ↦
          elim apart [
            | inl more ↦ absurd (never_later stays e other n m more.0 leaves also more.1)
            | inr less ↦ absurd (never_later stays e c m n less.0 too works less.1)
          ]
    ]

-- ---- the next move

pub next_is : (n : ℕ) (e : Evaluation) → moves (n + 1) e ≡ move (moves n e)
unfolding moves
next_is n e = moves_more n 1 e

same_call : (c other : OpenCall) → Works c ≡ Works other → c ≡ other
same_call c other e = cc

pub range_left : CallsSit → StandsThere → EndedStays → ParsesByOneCall → RangeLeftAlikeByMemo
unfolding opening
range_left sit there stay one g s n m c other lower below memo without =
    let it = beside g s sit there n in
    let e = opening g s None in
    let works : it.next ≡ Works c = sym (ap (λ (x : Evaluation). x.highest) it.goes) ∙ memo.works in
    let above : it.low ≡ lower = sym (ap (λ (x : Evaluation). x.lower) it.goes) ∙ memo.above in
    let stands : Stands g s it.found lower (Works c) it.later =
    subst (λ l. Stands g s it.found l (Works c) it.later) above (subst (λ h. Stands g s it.found it.low h it.later) works it.stands) in
    let there : memoed it.low it.next it.later it.counted ≡ memoed lower (Works c) it.later it.counted =
    ap (λ h. memoed it.low h it.later it.counted) works ∙ ap (λ l. memoed l (Works c) it.later it.counted) above in
    let here : moves it.count e ≡ bare lower (Works c) it.behind =
    it.is ∙ ap (λ h. bare it.low h it.behind) works ∙ ap (λ l. bare l (Works c) it.behind) above in
    let leaves : ended (move (memoed lower (Works c) it.later it.counted)) ≡ Some (Err OutOfRange) =
    sym (ap (λ x. ended (move x)) (it.goes ∙ there)) ∙ sym (ap ended (next_is n (opening g s new_memo))) ∙ memo.leaves in
    let too : ended (moves (it.count + 1) e) ≡ Some (Err OutOfRange) =
    ap ended (next_is it.count e) ∙ ap (λ x. ended (move x)) here
    ∙ does g s one it.found c lower it.later it.counted it.behind stands leaves in
    let same : it.count ≡ m = once stay e c other it.count m (ap (λ (x : Evaluation). x.highest) here) too without.works without.leaves in
    let met : bare lower (Works c) it.behind ≡ moves m e = sym here ∙ ap (λ k. moves k e) same in (
      same_call c other (ap (λ (x : Evaluation). x.highest) met ∙ without.works),
      ap (λ (x : Evaluation). x.lower) met ∙ without.above,
    )
