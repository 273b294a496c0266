-- How many calls are open at once where known answers are taken.
use Rattle.std.proofs.Common.{◌≡◌, ◌≢◌, ℕ, zero, suc, ◌+◌, ◌≤◌, refl, sym, ap, ◌∙◌, subst, arith, List, [], ◌∷◌, ◌++◌}
use Rattle.std.proofs.Common.{Option, Some, None, Result, Ok, Err, Bool, true, false, cond, length, max, inl, inr}
use Rattle.ipg_core.specs.Grammar.{Grammar, rule_at, holder_of}
use Rattle.ipg_core.specs.Tree.{Tree}
use Rattle.ipg_core.specs.Environment.{Values}
use Rattle.ipg_core.specs.Run.{Stop, NoTree, OutOfRange, Deep, Asked, Run}
use Rattle.ipg_core.specs.Meaning.{den, rule_on}
use Rattle.ipg_core.specs.Laws.{HeightsAgree, TurnsSuffice}
use Rattle.ipg_mach_moves.specs.Moves.{Key, OpenCall, Highest, Works, Holds, Known, Evaluation, Tally, Advance, one_opened, one_known, find}
use Rattle.ipg_mach_moves.specs.Moves.{learned, at_hand, opened, turned, always, silent, asked_part, asked_key, asks, works, move, opening, ended}
use Rattle.ipg_mach_moves.specs.Laws.{ParsesByOneCall, IsRight, AreRight}
use Rattle.ipg_mach_count_laws.specs.Kept.{AreSame, keys_of}
use Rattle.ipg_mach_count_laws.specs.Depth.{Nested, is_among, with_key, nested_over, nested}
use Rattle.ipg_mach_count_laws.specs.Laws.{DeepestOver}
use Rattle.ipg_mach_count_laws.proofs.Follows.{Holding, Steps, follows}
use Rattle.ipg_mach_count_laws.proofs.Once.{Quiet, Asking, hand_once, reply}
use Rattle.ipg_mach_count_laws.proofs.Settled.{NotDeep, IsLast, not_deep, is_last}
use Rattle.ipg_mach_count_laws.proofs.Stays.{ends_once, Goes, here, goes_by, goes_on, Below, ended_low}
use Rattle.ipg_mach_count_laws.specs.Standing.{StandsAt}
use Rattle.ipg_mach_count_laws.proofs.Parts.{whole_stands}
use Rattle.ipg_mach_count_laws.proofs.Asked.{there, found_is, right_is}
use Rattle.ipg_mach_count_laws.proofs.Found.{found_knows, found_right, keys_are_known}
use Rattle.ipg_mach_count_laws.proofs.Nests.{nested_some, has_among, among_has, alike_nested}
use Rattle.ipg_mach_count_laws.proofs.Landed.{evaluation}

-- ---- what is known

some_among : (known : Known) (key : Key) (answer : Result Tree Stop) → find known key ≡ Some answer → is_among (keys_of known) key ≡ true
some_among known key answer e = has_among (keys_of known) key ((keys_are_known known key).0 (found_knows known key (answer, e)))

not_true : (b : Bool) → (b ≡ true → ⊥) → b ≡ false
not_true true not = absurd (not refl)
not_true false not = refl

none_among : (known : Known) (key : Key) → find known key ≡ None → is_among (keys_of known) key ≡ false
none_among known key e = not_true (is_among (keys_of known) key) (λ has. (keys_are_known known key).1 (among_has (keys_of known) key has) e)

keys_learned : (holder : Option (ℕ × ℕ)) (known : Known) (key : Key) (answer : Result Tree Stop) (keys : List Key) → keys_of known ≡ keys
    → keys_of (learned holder known key answer) ≡ with_key holder key keys
keys_learned None known key answer keys e = ap (λ keys. key ∷ keys) e
keys_learned (Some holder) known key answer keys e = e

right_learned : (g : Grammar) (s : List ℕ) (holder : Option (ℕ × ℕ)) (known : Known) (key : Key) (answer : Result Tree Stop)
    → (holder ≡ None → IsRight g s (key, answer)) → AreRight g s (Some known) → AreRight g s (Some (learned holder known key answer))
right_learned g s None known key answer is right = (is refl, right)
right_learned g s (Some holder) known key answer is right = right

module _ (s : List ℕ) where
  -- where the call at a key holds its answer, in its place, with these keys known
  record Home (g : Grammar) (low lower : List OpenCall) (key at : Key) (later : Known) (keys : List Key) : Type 0 where
    place : low ≡ lower
    same : key ≡ at
    right : AreRight g s (Some later)
    is : keys_of later ≡ keys

  abbrev Back : Grammar → Result Tree Stop → List OpenCall → List OpenCall → Key → Key → Known → List Key → Type 0
  Back g (Ok tree) low lower key at later keys = Home g low lower key at later keys
  Back g (Err NoTree) low lower key at later keys = Home g low lower key at later keys
  Back g (Err OutOfRange) low lower key at later keys = Unit {0}
  Back g (Err Deep) low lower key at later keys = Home g low lower key at later keys

  back_here : (g : Grammar) (answer : Result Tree Stop) (lower : List OpenCall) (at : Key) (known : Known) → AreRight g s (Some known)
      → Back g answer lower lower at at known (keys_of known)
  back_here g (Ok tree) lower at known right = record { place = refl; same = refl; right = right; is = refl }
  back_here g (Err NoTree) lower at known right = record { place = refl; same = refl; right = right; is = refl }
  back_here g (Err OutOfRange) lower at known right = tt
  back_here g (Err Deep) lower at known right = record { place = refl; same = refl; right = right; is = refl }

  below_back : (g : Grammar) (answer : Result Tree Stop) (low lower : List OpenCall) (key at : Key) (later : Known) (keys : List Key)
      → Back g answer low lower key at later keys → Below answer low lower
  below_back g (Ok tree) low lower key at later keys home = home.place
  below_back g (Err NoTree) low lower key at later keys home = home.place
  below_back g (Err OutOfRange) low lower key at later keys home = tt
  below_back g (Err Deep) low lower key at later keys home = home.place

  -- it comes to an answer, with so many calls open at most, and these keys known
  record Lands (g : Grammar) (answer : Result Tree Stop) (lower : List OpenCall) (at : Key) (e : Evaluation) (most : ℕ) (keys : List Key) : Type 0 where
    low : List OpenCall
    key : Key
    later : Known
    counted : Tally
    goes : Goes e (evaluation low (Holds key answer) later counted)
    is : counted.deepest ≡ most
    back : Back g answer low lower key at later keys

  lands_after : (g : Grammar) (answer : Result Tree Stop) (lower : List OpenCall) (at : Key) (e next : Evaluation) (most : ℕ) (keys : List Key)
      → Goes e next → Lands g answer lower at next most keys → Lands g answer lower at e most keys
  lands_after g answer lower at e next most keys goes lands = record {
    low = lands.low;
    key = lands.key;
    later = lands.later;
    counted = lands.counted;
    goes = goes_on e next _ goes lands.goes;
    is = lands.is;
    back = lands.back;
  }

  -- the calls open at most with those that nest above
  abbrev LandsWith : Grammar → Result Tree Stop → List OpenCall → Key → Evaluation → Tally → ℕ → Nested → Type 0
  LandsWith g answer lower at e tally open_calls more = Lands g answer lower at e (max tally.deepest (open_calls + more.most)) more.known

  abbrev left_of : ℕ → Grammar → List Key → ℕ → List ℕ → List Asked → Nested
  left_of h g known from bytes asked = nested_over (nested g h) g known from bytes asked

  -- behind a call for which so many are open
  abbrev then : ℕ → Nested → Nested
  then most more = record { known = more.known; most = max most more.most }

  -- each call whose calls nest so deep
  record Counted (h : ℕ) : Type 0 where
    each : (g : Grammar) (r : ℕ) (bytes : List ℕ) (from : ℕ) (outer : Values) (lower : List OpenCall) (known : Known) (tally : Tally)
        → AreRight g s (Some known) → StandsAt s from bytes → length lower + 1 ≤ tally.deepest → den g h r bytes outer ≢ Err Deep
        → LandsWith g (den g h r bytes outer) lower (record { rule = r; from = from; to = from + length bytes })
        (evaluation lower (opened g r bytes from outer) known tally) tally (length lower) (nested g h (keys_of known) r from bytes outer)

  module _ (heights : HeightsAgree) (parses : ParsesByOneCall) (h : ℕ) (below : Counted h) (answer : Result Tree Stop) (lower : List OpenCall)
      (at : Key) where
    abbrev Counts : Holding
    Counts g bytes from highest asked = NotDeep highest × IsLast answer highest asked
        × ((known : Known) (tally : Tally) → AreRight g s (Some known) → StandsAt s from bytes → length lower + 1 ≤ tally.deepest
        → LandsWith g answer lower at (evaluation lower highest known tally) tally (length lower + 1) (left_of h g (keys_of known) from bytes asked))

    module _ (c : OpenCall) (asked : List Asked) where
      abbrev g : Grammar
      g = c.frame.grammar

      abbrev bytes : List ℕ
      bytes = c.frame.bytes

      abbrev Here : Highest → List Asked → Type 0
      Here highest asked = Counts g bytes c.from highest asked

      quiet_step : Quiet (λ call. at_hand call c) → Here (turned c (at_hand silent c).answer) asked → Here (Works c) ((at_hand silent c).asked ++ asked)
      unfolding move
      quiet_step quiet q =
          subst (λ none. Here (Works c) (none ++ asked)) (sym quiet.none) (
            tt,
            tt,
            λ known tally right stands some.
                let goes : move (evaluation lower (Works c) known tally) ≡ evaluation lower (turned c (at_hand silent c).answer) known tally =
                ap (works (evaluation lower (Works c) known tally) c (at_hand silent c).answer) quiet.none in
                lands_after g answer lower at _ _ _ _ (goes_by _ _ _ goes (here _)) (q.2 known tally right stands some),
          )

      module _ (one : Asking c.frame (λ call. at_hand call c)) where
        abbrev part_asked : List ℕ
        part_asked = asked_part c one.ask

        abbrev key : Key
        key = asked_key c one.ask

        abbrev holder : Option (ℕ × ℕ)
        holder = holder_of (rule_at g one.ask.callee)

        abbrev replied : Result Tree Stop
        replied = reply (den g h) c.frame one.ask

        abbrev made : Result Tree Stop → Result Advance Stop
        made answer = (at_hand (always answer) c).answer

        shallow : Here (turned c (made replied)) asked → replied ≢ Err Deep
        shallow q deep = subst (λ a. NotDeep (turned c a)) (ap made deep ∙ one.deep) q.0

        abbrev LandsHere : Known → Tally → Nested → Type 0
        LandsHere known tally more = LandsWith g answer lower at (evaluation lower (Works c) known tally) tally (length lower + 1) more

        -- what it makes of the keys
        abbrev inner : Known → Nested
        inner known = nested g h (keys_of known) one.ask.callee (c.from + one.ask.from) part_asked one.ask.outer

        abbrev rest : List Key → Nested
        rest keys = left_of h g keys c.from bytes asked

        abbrev behind : Known → Nested
        behind known = rest (with_key holder key (inner known).known)

        abbrev both : Known → Nested
        both known = then (inner known).most (behind known)

        abbrev by_known : Known → Bool → Nested
        by_known known b = cond b (rest (keys_of known)) (both known)

        -- ---- a call that is known

        known_step : (known : Known) (tally : Tally) (found : Result Tree Stop) → find known key ≡ Some found → Here (turned c (made replied)) asked
            → AreRight g s (Some known) → StandsAt s c.from bytes → length lower + 1 ≤ tally.deepest
            → LandsHere known tally (rest (keys_of known))
        unfolding move
        known_step known tally found e q right stands some =
            let is = found_is s c one stands heights h found (found_right g s known key found right e) (shallow q) in
            let now = evaluation lower (Works c) known tally in
            let goes : move now ≡ evaluation lower (turned c (made replied)) known (one_known tally) =
            ap (works now c (at_hand silent c).answer) one.one ∙ ap (asks now c one.ask) e
            ∙ ap (λ a. evaluation lower (turned c (made a)) known (one_known tally)) is in
            lands_after g answer lower at _ _ _ _ (goes_by _ _ _ goes (here _)) (q.2 known (one_known tally) right stands some)

        -- ---- a call that is opened, and comes back

        abbrev tally_more : Tally → Tally
        tally_more tally = one_opened tally holder (length lower + 2)

        abbrev inside : Known → Tally → Evaluation
        inside known tally = evaluation (c ∷ lower) (opened g one.ask.callee part_asked (c.from + one.ask.from) one.ask.outer) known (tally_more tally)

        opens : (known : Known) (tally : Tally) → find known key ≡ None → move (evaluation lower (Works c) known tally) ≡ inside known tally
        unfolding move
        opens known tally e =
            ap (works (evaluation lower (Works c) known tally) c (at_hand silent c).answer) one.one
            ∙ ap (asks (evaluation lower (Works c) known tally) c one.ask) e

        abbrev Inside : Result Tree Stop → Known → Tally → Type 0
        Inside given known tally = LandsWith g given (c ∷ lower) key (inside known tally) (tally_more tally) (length (c ∷ lower)) (inner known)

        abbrev LandsInside : Known → Tally → Type 0
        LandsInside known tally = LandsWith g answer lower at (inside known tally) tally (length lower + 1) (both known)

        returned : (given : Result Tree Stop) (known : Known) (tally : Tally) → replied ≡ given → Here (turned c (made given)) asked
            → replied ≢ Err Deep → StandsAt s c.from bytes → length lower + 1 ≤ tally.deepest → (lands : Inside given known tally)
            → Home g lands.low (c ∷ lower) lands.key key lands.later (inner known).known
            → move (evaluation (c ∷ lower) (Holds key given) lands.later lands.counted)
            ≡ evaluation lower (turned c (made given)) (learned holder lands.later key given) lands.counted
            → 1 ≤ (inner known).most → LandsInside known tally
        returned given known tally is q settled stands some lands home popped open_once =
            let goes = subst (λ k. Goes (inside known tally) (evaluation (c ∷ lower) (Holds k given) lands.later lands.counted)) home.same
            (subst (λ low. Goes (inside known tally) (evaluation low (Holds lands.key given) lands.later lands.counted)) home.place lands.goes) in
            let later = learned holder lands.later key given in
            let right = right_learned g s holder lands.later key given (right_is s c one stands h given is settled) home.right in
            let deepest = lands.is in
            let on = q.2 later lands.counted right stands (omega arith) in
            let keys = keys_learned holder lands.later key given (inner known).known home.is in
            let on_keys = subst (λ keys. LandsWith g answer lower at (evaluation lower (turned c (made given)) later lands.counted) lands.counted
            (length lower + 1) (rest keys)) keys on in
            let most : max lands.counted.deepest (length lower + 1 + (behind known).most) ≡ max tally.deepest (length lower + 1 + (both known).most) =
            omega arith in
            lands_after g answer lower at _ _ _ _ (goes_on _ _ _ goes (goes_by _ _ _ popped (here _)))
            (subst (λ most. Lands g answer lower at (evaluation lower (turned c (made given)) later lands.counted) most (both known).known) most on_keys)

        comes_back : (given : Result Tree Stop) (known : Known) (tally : Tally) → replied ≡ given → Here (turned c (made given)) asked
            → replied ≢ Err Deep → StandsAt s c.from bytes → length lower + 1 ≤ tally.deepest → Inside given known tally
            → 1 ≤ (inner known).most → LandsInside known tally
        unfolding move
        comes_back (Ok tree) known tally is q settled stands some lands open_once =
            returned (Ok tree) known tally is q settled stands some lands lands.back refl open_once
        comes_back (Err NoTree) known tally is q settled stands some lands open_once =
            returned (Err NoTree) known tally is q settled stands some lands lands.back refl open_once
        comes_back (Err OutOfRange) known tally is q settled stands some lands open_once =
            let last = subst (λ a. IsLast answer (turned c a) asked) one.range q.1 in
            let keys = with_key holder key (inner known).known in
            let deepest = lands.is in
            subst (λ xs. LandsWith g answer lower at (inside known tally) tally (length lower + 1)
            (then (inner known).most (left_of h g keys c.from bytes xs))) (sym last.0)
            (subst (λ a. LandsWith g a lower at (inside known tally) tally (length lower + 1) (then (inner known).most (record { known = keys; most = 0 })))
            (sym last.1) (record {
              low = lands.low;
              key = lands.key;
              later = lands.later;
              counted = lands.counted;
              goes = lands.goes;
              is = omega arith;
              back = tt;
            }))
        comes_back (Err Deep) known tally is q settled stands some lands open_once = absurd (settled is)

        opened_step : (known : Known) (tally : Tally) → find known key ≡ None → Here (turned c (made replied)) asked
            → AreRight g s (Some known) → StandsAt s c.from bytes → length lower + 1 ≤ tally.deepest
            → LandsHere known tally (both known)
        opened_step known tally e q right stands some =
            let lands = below.each g one.ask.callee part_asked (c.from + one.ask.from) one.ask.outer (c ∷ lower) known (tally_more tally) right
            (there s c one stands) (omega arith) (shallow q) in
            lands_after g answer lower at _ _ _ _ (goes_by _ _ _ (opens known tally e) (here _))
            (comes_back replied known tally refl q (shallow q) stands some lands
            (nested_some g h (keys_of known) one.ask.callee (c.from + one.ask.from) part_asked one.ask.outer (shallow q)))

        found_step : (known : Known) (tally : Tally) (found : Option (Result Tree Stop)) → find known key ≡ found → Here (turned c (made replied)) asked
            → AreRight g s (Some known) → StandsAt s c.from bytes → length lower + 1 ≤ tally.deepest
            → LandsHere known tally (left_of h g (keys_of known) c.from bytes (one.ask ∷ asked))
        found_step known tally None e q right stands some =
            subst (λ b. LandsHere known tally (by_known known b))
            (sym (none_among known key e)) (opened_step known tally e q right stands some)
        found_step known tally (Some found) e q right stands some =
            subst (λ b. LandsHere known tally (by_known known b))
            (sym (some_among known key found e)) (known_step known tally found e q right stands some)

        asking_step : Here (turned c (made replied)) asked → Here (Works c) (one.ask ∷ asked)
        asking_step q = (tt, tt, λ known tally right stands some. found_step known tally _ refl q right stands some)

    steps : Steps h Counts
    steps c asked = elim (hand_once parses c) [
      | inl quiet ↦
          subst (λ (run : Run Advance). Here c asked (turned c run.answer) asked → Here c asked (Works c) (run.asked ++ asked))
          (sym (quiet.is (den c.frame.grammar h))) (quiet_step c asked quiet)
      | inr one ↦
          subst (λ (run : Run Advance). Here c asked (turned c run.answer) asked → Here c asked (Works c) (run.asked ++ asked))
          (sym (one.is (den c.frame.grammar h))) (asking_step c asked one)
    ]

  counted : HeightsAgree → ParsesByOneCall → TurnsSuffice → (h : ℕ) → Counted h
  unfolding den nested
  counted heights parses suffice zero = record { each = λ g r bytes from outer lower known tally right stands some settled. absurd (settled refl) }
  counted heights parses suffice (suc h) = record {
    each = λ g r bytes from outer lower known tally right stands some settled.
        let answer = (rule_on (den g h) g r bytes outer).answer in
        let at : Key = record { rule = r; from = from; to = from + length bytes } in
        let below = counted heights parses suffice h in
        let ends : Counts heights parses h below answer lower at g bytes from (Holds at answer) [] = (
          not_deep at answer settled,
          is_last at answer,
          λ known tally right stands some. record {
            low = lower;
            key = at;
            later = known;
            counted = tally;
            goes = here _;
            is = omega arith;
            back = back_here g answer lower at known right;
          },
        ) in
        let all = follows h (Counts heights parses h below answer lower at) (steps heights parses h below answer lower at) suffice from g r bytes outer ends in
        let left = left_of h g (keys_of known) from bytes (rule_on (den g h) g r bytes outer).asked in
        let most : max tally.deepest (length lower + 1 + left.most) ≡ max tally.deepest (length lower + (1 + left.most)) = omega arith in
        subst (λ most. Lands g answer lower at (evaluation lower (opened g r bytes from outer) known tally) most left.known) most
        (all.2 known tally right stands some);
  }

pub deepest_over : HeightsAgree → ParsesByOneCall → TurnsSuffice → DeepestOver
unfolding opening
deepest_over heights parses suffice g s height n known kept answer right are settled ends =
    let it = (counted s heights parses suffice height).each g 0 s 0 [] [] known (record { bodies = 1; hits = 0; deepest = 1 }) right (whole_stands s)
    (omega arith) settled in
    let late = ap ended it.goes.is
    ∙ ended_low it.low it.key (den g height 0 s []) (below_back s g (den g height 0 s []) it.low [] it.key _ it.later _ it.back) in
    let same = ends_once n it.goes.count (opening g s (Some known)) answer (den g height 0 s []) ends late ∙ it.goes.is in
    let some = nested_some g height (keys_of known) 0 0 s [] settled in
    let keys : AreSame (keys_of known) kept = (
      λ key has. (are key).0 ((keys_are_known known key).1 has),
      λ key has. (keys_are_known known key).0 ((are key).1 has),
    ) in
    let alike = (alike_nested g height 0 0 s [] (keys_of known) kept keys).most in
    let is = it.is in
    ap (λ (e : Evaluation). e.tally.deepest) same ∙ omega arith
