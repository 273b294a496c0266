-- The moves of an evaluation follow its meaning, call by call.
use Rattle.std.proofs.Common.{◌≡◌, ◌≢◌, ℕ, zero, suc, ◌+◌, ◌<◌, ◌≤◌, refl, sym, ap, ◌∙◌, subst, arith, List, [], ◌∷◌, Option, Some, None, Result, Ok}
use Rattle.std.proofs.Common.{Err, length, max, ◌⊎◌, inl, inr}
use Rattle.ipg_core.specs.Grammar.{Grammar, rule_at, holder_of}
use Rattle.ipg_core.specs.Part.{part}
use Rattle.ipg_core.specs.Tree.{Tree}
use Rattle.ipg_core.specs.Environment.{Values}
use Rattle.ipg_core.specs.Run.{Stop, NoTree, OutOfRange, Deep, Run}
use Rattle.ipg_core.specs.Meaning.{den}
use Rattle.ipg_core.specs.Laws.{HeightsAgree}
use Rattle.ipg_mach_moves.specs.Moves.{Key, OpenCall, Highest, Works, Holds, Known, Evaluation, Tally, one_opened, one_known, known_of, learn, Advance}
use Rattle.ipg_mach_moves.specs.Moves.{at_hand, key_at, opened, turned, always, silent, asked_part, asked_key, asks, works, returns, move}
use Rattle.ipg_mach_moves.proofs.Asks.{Quiet, Asking, Anything, hand_once}
use Rattle.ipg_mach_moves.proofs.Parts.{StandsAt, part_at, part_stands}
use Rattle.ipg_mach_moves.proofs.Paths.{Fit, Path, stay, step, join}
use Rattle.ipg_mach_moves.proofs.Known.{known_right, learn_right, one_answer, deep_or_not}

abbrev pub evaluation : List OpenCall → Highest → Option Known → Tally → Evaluation
evaluation lower highest known tally = record { lower = lower; highest = highest; known = known; tally = tally }

module _ (s : List ℕ) (bound : ℕ) where
  -- it comes to this highest call above the same others
  pub record Comes (g : Grammar) (e : Evaluation) (lower : List OpenCall) (highest : Highest) : Type 0 where
    pub known : Option Known
    pub tally : Tally
    pub right : Fit g s bound known tally
    pub path : Path g s bound e (evaluation lower highest known tally)

  -- it ends out of range
  pub record Leaves (g : Grammar) (e : Evaluation) : Type 0 where
    pub last : Evaluation
    pub key : Key
    pub is : last.highest ≡ Holds key (Err OutOfRange)
    pub path : Path g s bound e last

  -- it comes to what an answer makes of the highest call, or ends out of range; of what is too deep nothing is said
  abbrev pub Arrives : Grammar → {A : Type 0} → (Result A Stop → Highest) → Evaluation → List OpenCall → Result A Stop → Type 0
  Arrives g make e lower (Ok a) = Comes g e lower (make (Ok a))
  Arrives g make e lower (Err NoTree) = Comes g e lower (make (Err NoTree))
  Arrives g make e lower (Err OutOfRange) = Leaves g e
  Arrives g make e lower (Err Deep) = Unit {0}

  comes_after : (g : Grammar) (e middle : Evaluation) (lower : List OpenCall) (highest : Highest) → Path g s bound e middle → Comes g middle lower highest
      → Comes g e lower highest
  comes_after g e middle lower highest path comes = record {
    known = comes.known;
    tally = comes.tally;
    right = comes.right;
    path = join g s bound e middle _ path comes.path;
  }

  leaves_after : (g : Grammar) (e middle : Evaluation) → Path g s bound e middle → Leaves g middle → Leaves g e
  leaves_after g e middle path leaves = record { last = leaves.last; key = leaves.key; is = leaves.is; path = join g s bound e middle _ path leaves.path }

  pub arrives_after : (g : Grammar) {A : Type 0} (make : Result A Stop → Highest) (e middle : Evaluation) (lower : List OpenCall) (answer : Result A Stop)
      → Path g s bound e middle → Arrives g make middle lower answer → Arrives g make e lower answer
  arrives_after g make e middle lower (Ok a) path h = comes_after g e middle lower _ path h
  arrives_after g make e middle lower (Err NoTree) path h = comes_after g e middle lower _ path h
  arrives_after g make e middle lower (Err OutOfRange) path h = leaves_after g e middle path h
  arrives_after g make e middle lower (Err Deep) path h = tt

  -- where the next stands already
  pub arrived : (g : Grammar) {A : Type 0} (make : Result A Stop → Highest) (key : Key) → make (Err OutOfRange) ≡ Holds key (Err OutOfRange)
      → (lower : List OpenCall) (known : Option Known) (tally : Tally) (answer : Result A Stop) → Fit g s bound known tally
      → Arrives g make (evaluation lower (make answer) known tally) lower answer
  arrived g make key range lower known tally (Ok a) right = record { known = known; tally = tally; right = right; path = stay g s bound _ right }
  arrived g make key range lower known tally (Err NoTree) right = record { known = known; tally = tally; right = right; path = stay g s bound _ right }
  arrived g make key range lower known tally (Err OutOfRange) right = record { last = _; key = key; is = range; path = stay g s bound _ right }
  arrived g make key range lower known tally (Err Deep) right = tt

  -- ---- the moves of a call at its term at hand

  -- each call that is opened, its calls nested so deep, comes to its answer
  pub record CallsRun (g : Grammar) (h : ℕ) : Type 0 where
    pub run : (r : ℕ) (bytes : List ℕ) (from : ℕ) (outer : Values) (lower : List OpenCall) (known : Option Known) (tally : Tally)
        → StandsAt s from bytes → length lower + h ≤ bound → Fit g s bound known tally
        → Arrives g (Holds (record { rule = r; from = from; to = from + length bytes })) (evaluation lower (opened g r bytes from outer) known tally) lower
        (den g h r bytes outer)

none_or_some : (n : ℕ) → (n ≡ 0) ⊎ (0 < n)
none_or_some zero = inl refl
none_or_some (suc n) = inr (omega arith)

module _ (s : List ℕ) (bound : ℕ) (heights : HeightsAgree) where
  module _ (c : OpenCall) (lower : List OpenCall) where
    abbrev now : Option Known → Tally → Evaluation
    now known tally = evaluation lower (Works c) known tally

    quiet_move : (known : Option Known) (tally : Tally) (quiet : Quiet (λ call. at_hand call c))
        → move (now known tally) ≡ evaluation lower (turned c quiet.answer) known tally
    unfolding move
    quiet_move known tally quiet = ap (λ (run : Run Advance). works (now known tally) c run.answer run.asked) (quiet.is silent)

    asking_move : (known : Option Known) (tally : Tally) (one : Asking c.frame Anything (λ call. at_hand call c))
        → move (now known tally) ≡ asks (now known tally) c one.ask (known_of known (asked_key c one.ask))
    unfolding move
    asking_move known tally one = ap (λ (run : Run Advance). works (now known tally) c run.answer run.asked) (one.is silent)

    -- a move that leads to what the answer makes
    moved : (known : Option Known) (tally later : Tally) (answer : Result Advance Stop) → Fit c.frame.grammar s bound known tally
        → Fit c.frame.grammar s bound known later
        → move (now known tally) ≡ evaluation lower (turned c answer) known later → Arrives s bound c.frame.grammar (turned c) (now known tally) lower answer
    moved known tally later answer right also e =
        let g = c.frame.grammar in
        arrives_after s bound g (turned c) (now known tally) _ lower answer
        (step g s bound (now known tally) _ right
        (subst (λ next. Path g s bound next (evaluation lower (turned c answer) known later)) (sym e) (stay g s bound _ also)))
        (arrived s bound g (turned c) (key_at c.frame c.from) refl lower known later answer also)

    module _ (h : ℕ) (stands : StandsAt s c.from c.frame.bytes) (one : Asking c.frame Anything (λ call. at_hand call c)) where
      abbrev reply : ℕ → Result Tree Stop
      reply height = den c.frame.grammar height one.ask.callee (asked_part c one.ask) one.ask.outer

      there : StandsAt s (c.from + one.ask.from) (asked_part c one.ask)
      there = part_stands s c.from one.ask.from one.ask.to c.frame.bytes stands

      -- a global rule on the interval of the input answers as the call does
      global_reply : (height : ℕ) → holder_of (rule_at c.frame.grammar one.ask.callee) ≡ None
          → den c.frame.grammar height one.ask.callee (part s (asked_key c one.ask).from (asked_key c one.ask).to) [] ≡ reply height
      global_reply height global =
          ap (λ bytes. den c.frame.grammar height one.ask.callee bytes []) (part_at s _ _ there)
          ∙ ap (den c.frame.grammar height one.ask.callee (asked_part c one.ask)) (sym (one.outer global))

      -- a call that is known
      known_move : (known : Option Known) (tally : Tally) (answer : Result Tree Stop) → known_of known (asked_key c one.ask) ≡ Some answer
          → move (now known tally) ≡ evaluation lower (turned c (one.made answer)) known (one_known tally)
      known_move known tally answer e =
          asking_move known tally one
          ∙ ap (asks (now known tally) c one.ask) e
          ∙ ap (λ (run : Run Advance). evaluation lower (turned c run.answer) known (one_known tally)) (one.is (always answer))

      hand_known : (known : Option Known) (tally : Tally) (answer : Result Tree Stop) → Fit c.frame.grammar s bound known tally
          → known_of known (asked_key c one.ask) ≡ Some answer → Arrives s bound c.frame.grammar (turned c) (now known tally) lower (one.made (reply h))
      hand_known known tally answer right e =
          let entry = known_right c.frame.grammar s known _ answer right.0 e in
          let is : reply entry.height ≡ answer = sym (global_reply entry.height entry.global) ∙ entry.is in
          elim (deep_or_not (reply h)) [
            | inl deep ↦ subst (Arrives s bound c.frame.grammar (turned c) (now known tally) lower) (sym (ap one.made deep ∙ one.deep)) tt
            | inr settled ↦
                let same = one_answer heights c.frame.grammar entry.height h one.ask.callee (asked_part c one.ask) one.ask.outer
                (λ d. entry.settled (sym is ∙ d)) settled in
                subst (λ a. Arrives s bound c.frame.grammar (turned c) (now known tally) lower (one.made a)) (sym is ∙ same)
                (moved known tally (one_known tally) (one.made answer) right right (known_move known tally answer e))
          ]

      -- a call that is opened, and comes back
      abbrev key : Key
      key = asked_key c one.ask

      learned : (known : Option Known) (tally : Tally) (answer : Result Tree Stop) → Fit c.frame.grammar s bound known tally → reply h ≡ answer
          → answer ≢ Err Deep
          → Fit c.frame.grammar s bound (learn c.frame.grammar known key answer) tally
      learned known tally answer right e settled = (
        learn_right c.frame.grammar s known key answer right.0
            (λ global. record { global = global; height = h; is = global_reply h global ∙ e; settled = settled }),
        right.1,
      )

      back : (known : Option Known) (tally : Tally) (answer : Result Tree Stop) → Fit c.frame.grammar s bound known tally → reply h ≡ answer → answer ≢ Err Deep
          → move (evaluation (c ∷ lower) (Holds key answer) known tally) ≡ returns (evaluation (c ∷ lower) (Holds key answer) known tally) key answer
          (c ∷ lower)
          → Arrives s bound c.frame.grammar (turned c) (evaluation (c ∷ lower) (Holds key answer) known tally) lower (one.made answer)
      back known tally answer right e settled popped =
          let g = c.frame.grammar in
          let more = learned known tally answer right e settled in
          let next = evaluation lower (turned c (one.made answer)) (learn g known key answer) tally in
          let goes : move (evaluation (c ∷ lower) (Holds key answer) known tally) ≡ next =
          popped ∙ ap (λ (run : Run Advance). evaluation lower (turned c run.answer) (learn g known key answer) tally) (one.is (always answer)) in
          arrives_after s bound g (turned c) _ next lower (one.made answer)
          (step g s bound _ next right (subst (λ x. Path g s bound x next) (sym goes) (stay g s bound next more)))
          (arrived s bound g (turned c) (key_at c.frame c.from) refl lower _ tally (one.made answer) more)

      returned : (e : Evaluation) (answer : Result Tree Stop) → reply h ≡ answer → Arrives s bound c.frame.grammar (Holds key) e (c ∷ lower) answer
          → Arrives s bound c.frame.grammar (turned c) e lower (one.made answer)
      unfolding move
      returned e (Ok tree) is h =
          arrives_after s bound c.frame.grammar (turned c) e _ lower (one.made (Ok tree)) h.path (back h.known h.tally (Ok tree) h.right is (λ d. cc) refl)
      returned e (Err NoTree) is h =
          arrives_after s bound c.frame.grammar (turned c) e _ lower (one.made (Err NoTree)) h.path
          (back h.known h.tally (Err NoTree) h.right is (λ d. cc) refl)
      returned e (Err OutOfRange) is h = subst (Arrives s bound c.frame.grammar (turned c) e lower) (sym one.range) h
      returned e (Err Deep) is h = subst (Arrives s bound c.frame.grammar (turned c) e lower) (sym one.deep) tt

      deep_at_once : h ≡ 0 → reply h ≡ Err Deep
      unfolding den
      deep_at_once is = ap reply is

      room_for_one : (tally : Tally) → tally.deepest ≤ bound → length lower + h < bound → 0 < h → max tally.deepest (length lower + 2) ≤ bound
      room_for_one tally low room some = omega arith

      hand_opened : (known : Option Known) (tally : Tally) → Fit c.frame.grammar s bound known tally → CallsRun s bound c.frame.grammar h
          → length lower + h < bound → 0 < h
          → known_of known (asked_key c one.ask) ≡ None → Arrives s bound c.frame.grammar (turned c) (now known tally) lower (one.made (reply h))
      hand_opened known tally right calls room some e =
          let g = c.frame.grammar in
          let more = one_opened tally (holder_of (rule_at g one.ask.callee)) (length lower + 2) in
          let fit : Fit g s bound known more = (right.0, room_for_one tally right.1 room some) in
          let inside = evaluation (c ∷ lower) (opened g one.ask.callee (asked_part c one.ask) (c.from + one.ask.from) one.ask.outer) known more in
          let goes : move (now known tally) ≡ inside = asking_move known tally one ∙ ap (asks (now known tally) c one.ask) e in
          let runs = calls.run one.ask.callee (asked_part c one.ask) (c.from + one.ask.from) one.ask.outer (c ∷ lower) known more there (omega arith) fit in
          arrives_after s bound g (turned c) (now known tally) inside lower (one.made (reply h))
          (step g s bound (now known tally) inside right (subst (λ x. Path g s bound x inside) (sym goes) (stay g s bound inside fit)))
          (returned inside (reply h) refl runs)

      hand_asks : (known : Option Known) (tally : Tally) (found : Option (Result Tree Stop)) → known_of known (asked_key c one.ask) ≡ found
          → Fit c.frame.grammar s bound known tally → CallsRun s bound c.frame.grammar h → length lower + h < bound
          → Arrives s bound c.frame.grammar (turned c) (now known tally) lower (one.made (reply h))
      hand_asks known tally None e right calls room =
          elim (none_or_some h) [
            | inl is ↦ subst (Arrives s bound c.frame.grammar (turned c) (now known tally) lower) (sym (ap one.made (deep_at_once is) ∙ one.deep)) tt
            | inr some ↦ hand_opened known tally right calls room some e
          ]
      hand_asks known tally (Some answer) e right calls room = hand_known known tally answer right e

    -- the call comes to what its term at hand makes of it
    pub hand_runs : (h : ℕ) (known : Option Known) (tally : Tally) → StandsAt s c.from c.frame.bytes → Fit c.frame.grammar s bound known tally
        → CallsRun s bound c.frame.grammar h → length lower + h < bound
        → Arrives s bound c.frame.grammar (turned c) (now known tally) lower (at_hand (den c.frame.grammar h) c).answer
    hand_runs h known tally stands right calls room =
        let g = c.frame.grammar in
        let goal = λ (a : Result Advance Stop). Arrives s bound g (turned c) (now known tally) lower a in
        elim (hand_once c) [
          | inl quiet ↦
              subst goal (sym (ap (λ (run : Run Advance). run.answer) (quiet.is (den g h))))
              (moved known tally tally quiet.answer right right (quiet_move known tally quiet))
          | inr one ↦
              subst goal (sym (ap (λ (run : Run Advance). run.answer) (one.is (den g h))))
              (hand_asks h stands one known tally _ refl right calls room)
        ]
