-- What is counted without a memo.
use Rattle.std.proofs.Common.{◌≡◌, ◌≢◌, ℕ, zero, suc, ◌+◌, ◌≤◌, refl, sym, ap, ◌∙◌, subst, arith, List, [], ◌∷◌, ◌++◌, None, Result, Ok, Err, length}
use Rattle.std.proofs.Common.{max, inl, inr}
use Rattle.ipg_core.specs.Grammar.{Grammar, rule_at, holder_of}
use Rattle.ipg_core.specs.Part.{part}
use Rattle.ipg_core.specs.Tree.{Tree}
use Rattle.ipg_core.specs.Environment.{Values}
use Rattle.ipg_core.specs.Run.{Stop, NoTree, OutOfRange, Deep, Asked, Run}
use Rattle.ipg_core.specs.Meaning.{den, rule_on}
use Rattle.ipg_core.specs.Laws.{TurnsSuffice}
use Rattle.ipg_mach_moves.specs.Moves.{Key, OpenCall, Highest, Works, Holds, Evaluation, Tally, one_opened, Advance, at_hand, opened, turned, always}
use Rattle.ipg_mach_moves.specs.Moves.{silent, asked_part, works, move, opening, ended}
use Rattle.ipg_mach_moves.specs.Laws.{ParsesByOneCall}
use Rattle.ipg_mach_count_laws.specs.Counts.{sum_over, most_over, count, nest}
use Rattle.ipg_mach_count_laws.specs.Laws.{CountsWithoutMemo}
use Rattle.ipg_mach_count_laws.proofs.Follows.{Holding, Steps, follows}
use Rattle.ipg_mach_count_laws.proofs.Once.{Quiet, Asking, hand_once, reply}
use Rattle.ipg_mach_count_laws.proofs.Settled.{NotDeep, IsLast, not_deep, is_last}
use Rattle.ipg_mach_count_laws.proofs.Stays.{ends_once, Goes, here, goes_by, goes_on, Below, ended_low, below_same}

tally_same : (a b : Tally) → a.bodies ≡ b.bodies → a.hits ≡ b.hits → a.deepest ≡ b.deepest → a ≡ b
tally_same a b one two three =
    ap (λ n. record { bodies = n; hits = a.hits; deepest = a.deepest }) one
    ∙ ap (λ n. record { bodies = b.bodies; hits = n; deepest = a.deepest }) two
    ∙ ap (λ n. record { bodies = b.bodies; hits = b.hits; deepest = n }) three

abbrev evaluation : List OpenCall → Highest → Tally → Evaluation
evaluation lower highest tally = record { lower = lower; highest = highest; known = None; tally = tally }

-- it comes to an answer, with so much counted
record Lands (answer : Result Tree Stop) (lower : List OpenCall) (e : Evaluation) (tally : Tally) : Type 0 where
  low : List OpenCall
  key : Key
  goes : Goes e (evaluation low (Holds key answer) tally)
  below : Below answer low lower

lands_after : (answer : Result Tree Stop) (lower : List OpenCall) (e middle : Evaluation) (tally : Tally) → Goes e middle → Lands answer lower middle tally
    → Lands answer lower e tally
lands_after answer lower e middle tally goes lands =
    record { low = lands.low; key = lands.key; goes = goes_on e middle _ goes lands.goes; below = lands.below }

-- what is counted of the calls that a frame still makes
abbrev charged : ℕ → Grammar → List ℕ → List OpenCall → List Asked → Tally → Tally
charged h g bytes lower asked tally = record {
  bodies = tally.bodies + sum_over (count g h) bytes asked;
  hits = tally.hits;
  deepest = max tally.deepest (length lower + 1 + most_over (nest g h) bytes asked);
}

-- what is counted of a call
abbrev called : ℕ → Grammar → ℕ → List ℕ → Values → List OpenCall → Tally → Tally
called h g r bytes outer lower tally = record {
  bodies = tally.bodies + count g h r bytes outer;
  hits = tally.hits;
  deepest = max tally.deepest (length lower + nest g h r bytes outer);
}

charged_more : (h : ℕ) (g : Grammar) (bytes : List ℕ) (lower : List OpenCall) (c : OpenCall) (ask : Asked) (asked : List Asked) (tally : Tally)
    → charged h g bytes lower asked (called h g ask.callee (part bytes ask.from ask.to) ask.outer (c ∷ lower) tally)
    ≡ charged h g bytes lower (ask ∷ asked) tally
charged_more h g bytes lower c ask asked tally = tally_same _ _ (omega arith) refl (omega arith)

charged_none : (h : ℕ) (g : Grammar) (bytes : List ℕ) (lower : List OpenCall) (tally : Tally) → length lower + 1 ≤ tally.deepest
    → tally ≡ charged h g bytes lower [] tally
charged_none h g bytes lower tally some = tally_same _ _ (omega arith) refl (omega arith)

abbrev open_tally : Grammar → ℕ → List OpenCall → Tally → Tally
open_tally g r lower tally = one_opened tally (holder_of (rule_at g r)) (length lower + 1)

charged_all : (h : ℕ) (g : Grammar) (r : ℕ) (bytes : List ℕ) (outer : Values) (lower : List OpenCall) (tally : Tally)
    → charged h g bytes lower (rule_on (den g h) g r bytes outer).asked (open_tally g r lower tally) ≡ called (suc h) g r bytes outer lower tally
unfolding count nest
charged_all h g r bytes outer lower tally = tally_same _ _ (omega arith) refl (omega arith)

-- each call whose calls nest so deep is counted so
record Counted (h : ℕ) : Type 0 where
  each : (g : Grammar) (r : ℕ) (bytes : List ℕ) (from : ℕ) (outer : Values) (lower : List OpenCall) (tally : Tally) → den g h r bytes outer ≢ Err Deep
      → Lands (den g h r bytes outer) lower (evaluation lower (opened g r bytes from outer) (open_tally g r lower tally)) (called h g r bytes outer lower tally)

module _ (parses : ParsesByOneCall) (h : ℕ) (below : Counted h) (answer : Result Tree Stop) (lower : List OpenCall) where
  abbrev Counts : Holding
  Counts g bytes from highest asked = NotDeep highest × IsLast answer highest asked
      × ((tally : Tally) → length lower + 1 ≤ tally.deepest → Lands answer lower (evaluation lower highest tally) (charged h g bytes lower asked tally))

  module _ (c : OpenCall) (asked : List Asked) where
    abbrev g : Grammar
    g = c.frame.grammar

    abbrev Here : Highest → List Asked → Type 0
    Here highest asked = Counts g c.frame.bytes c.from highest asked

    quiet_step : Quiet (λ call. at_hand call c) → Here (turned c (at_hand silent c).answer) asked → Here (Works c) ((at_hand silent c).asked ++ asked)
    unfolding move
    quiet_step quiet q = (
      tt,
      tt,
      λ tally some.
          let goes : move (evaluation lower (Works c) tally) ≡ evaluation lower (turned c (at_hand silent c).answer) tally =
          ap (works (evaluation lower (Works c) tally) c (at_hand silent c).answer) quiet.none in
          subst (λ none. Lands answer lower (evaluation lower (Works c) tally) (charged h g c.frame.bytes lower (none ++ asked) tally)) (sym quiet.none)
          (lands_after answer lower _ _ _ (goes_by _ _ _ goes (here _)) (q.2 tally some)),
    )

    module _ (one : Asking c.frame (λ call. at_hand call c)) where
      abbrev replied : Result Tree Stop
      replied = reply (den g h) c.frame one.ask

      abbrev made : Result Tree Stop → Result Advance Stop
      made answer = (at_hand (always answer) c).answer

      abbrev inside : Tally → Evaluation
      inside tally = evaluation (c ∷ lower) (opened g one.ask.callee (asked_part c one.ask) (c.from + one.ask.from) one.ask.outer)
          (open_tally g one.ask.callee (c ∷ lower) tally)

      opens : (tally : Tally) → move (evaluation lower (Works c) tally) ≡ inside tally
      unfolding move
      opens tally =
          let more : length lower + 2 ≡ length (c ∷ lower) + 1 = omega arith in
          ap (works (evaluation lower (Works c) tally) c (at_hand silent c).answer) one.one
          ∙ ap (λ n. evaluation (c ∷ lower) (opened g one.ask.callee (asked_part c one.ask) (c.from + one.ask.from) one.ask.outer)
          (one_opened tally (holder_of (rule_at g one.ask.callee)) n)) more

      -- the call below goes on with its answer
      comes_back : (given : Result Tree Stop) (tally now : Tally) → replied ≡ given → Here (turned c (made given)) asked → length lower + 1 ≤ tally.deepest
          → tally.deepest ≤ now.deepest
          → Lands given (c ∷ lower) (inside tally) now → Lands answer lower (inside tally) (charged h g c.frame.bytes lower asked now)
      unfolding move
      comes_back (Ok tree) tally now is q some more lands =
          lands_after answer lower _ (evaluation (c ∷ lower) (Holds lands.key (Ok tree)) now) _
          (subst (λ low. Goes (inside tally) (evaluation low (Holds lands.key (Ok tree)) now)) lands.below lands.goes)
          (lands_after answer lower _ _ _ (goes_by _ _ _ refl (here _)) (q.2 now (omega arith)))
      comes_back (Err NoTree) tally now is q some more lands =
          lands_after answer lower _ (evaluation (c ∷ lower) (Holds lands.key (Err NoTree)) now) _
          (subst (λ low. Goes (inside tally) (evaluation low (Holds lands.key (Err NoTree)) now)) lands.below lands.goes)
          (lands_after answer lower _ _ _ (goes_by _ _ _ refl (here _)) (q.2 now (omega arith)))
      comes_back (Err OutOfRange) tally now is q some more lands =
          let last = subst (λ a. IsLast answer (turned c a) asked) one.range q.1 in
          subst (λ xs. Lands answer lower (inside tally) (charged h g c.frame.bytes lower xs now)) (sym last.0)
          (subst (Lands answer lower (inside tally)) (charged_none h g c.frame.bytes lower now (omega arith))
          (subst (λ a. Lands a lower (inside tally) now) (sym last.1) (record { low = lands.low; key = lands.key; goes = lands.goes; below = tt })))
      comes_back (Err Deep) tally now is q some more lands = absurd (subst (λ a. NotDeep (turned c a)) one.deep q.0)

      shallow : Here (turned c (made replied)) asked → replied ≢ Err Deep
      shallow q deep = subst (λ a. NotDeep (turned c a)) (ap made deep ∙ one.deep) q.0

      asking_step : Here (turned c (made replied)) asked → Here (Works c) (one.ask ∷ asked)
      asking_step q = (
        tt,
        tt,
        λ tally some.
            let now = called h g one.ask.callee (asked_part c one.ask) one.ask.outer (c ∷ lower) tally in
            let lands = below.each g one.ask.callee (asked_part c one.ask) (c.from + one.ask.from) one.ask.outer (c ∷ lower) tally (shallow q) in
            lands_after answer lower _ _ _ (goes_by _ _ _ (opens tally) (here _))
            (subst (Lands answer lower (inside tally)) (charged_more h g c.frame.bytes lower c one.ask asked tally)
            (comes_back replied tally now refl q some (omega arith) lands)),
      )

  steps : Steps h Counts
  steps c asked = elim (hand_once parses c) [
    | inl quiet ↦
        subst (λ (run : Run Advance). Here c asked (turned c run.answer) asked → Here c asked (Works c) (run.asked ++ asked))
        (sym (quiet.is (den c.frame.grammar h))) (quiet_step c asked quiet)
    | inr one ↦
        subst (λ (run : Run Advance). Here c asked (turned c run.answer) asked → Here c asked (Works c) (run.asked ++ asked))
        (sym (one.is (den c.frame.grammar h))) (asking_step c asked one)
  ]

counted : ParsesByOneCall → TurnsSuffice → (h : ℕ) → Counted h
unfolding den
counted parses suffice zero = record { each = λ g r bytes from outer lower tally settled. absurd (settled refl) }
counted parses suffice (suc h) = record {
  each = λ g r bytes from outer lower tally settled.
      let answer = (rule_on (den g h) g r bytes outer).answer in
      let key : Key = record { rule = r; from = from; to = from + length bytes } in
      let below = counted parses suffice h in
      let ends : Counts parses h below answer lower g bytes from (Holds key answer) [] = (
        not_deep key answer settled,
        is_last key answer,
        λ tally some. subst (Lands answer lower (evaluation lower (Holds key answer) tally)) (charged_none h g bytes lower tally some)
            (record { low = lower; key = key; goes = here _; below = below_same answer lower }),
      ) in
      let all = follows h (Counts parses h below answer lower) (steps parses h below answer lower) suffice from g r bytes outer ends in
      subst (Lands answer lower (evaluation lower (opened g r bytes from outer) (open_tally g r lower tally))) (charged_all h g r bytes outer lower tally)
      (all.2 (open_tally g r lower tally) (omega arith));
}

abbrev nothing : Tally
nothing = record { bodies = 0; hits = 0; deepest = 0 }

opens_first : (g : Grammar) → holder_of (rule_at g 0) ≡ None → open_tally g 0 [] nothing ≡ record { bodies = 1; hits = 0; deepest = 1 }
opens_first g global = ap (λ holder. one_opened nothing holder (length {A = OpenCall} [] + 1)) global ∙ tally_same _ _ refl refl (omega arith)

pub counts_without_memo : ParsesByOneCall → TurnsSuffice → CountsWithoutMemo
unfolding opening
counts_without_memo parses suffice g s height n answer global settled ends =
    let start = opening g s None in
    let it = subst (λ tally. Lands (den g height 0 s []) [] (evaluation [] (opened g 0 s 0 []) tally) (called height g 0 s [] [] nothing))
    (opens_first g global) ((counted parses suffice height).each g 0 s 0 [] [] nothing settled) in
    let late = ap ended it.goes.is ∙ ended_low it.low it.key (den g height 0 s []) it.below in
    let same = ends_once n it.goes.count start answer (den g height 0 s []) ends late ∙ it.goes.is in
    ap (λ (e : Evaluation). e.tally) same ∙ tally_same _ _ (omega arith) refl (omega arith)
