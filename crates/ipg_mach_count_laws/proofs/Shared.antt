-- What the calls of a call come to with a memo.
use Rattle.std.proofs.Common.{◌≡◌, ◌≢◌, ℕ, zero, suc, ◌+◌, ◌≤◌, refl, sym, ap, ◌∙◌, subst, arith, List, [], ◌∷◌, ◌++◌, Option, Some, None, Result, Ok}
use Rattle.std.proofs.Common.{Err, length, inl, inr}
use Rattle.ipg_core.specs.Grammar.{Grammar, rule_at, holder_of}
use Rattle.ipg_core.specs.Tree.{Tree}
use Rattle.ipg_core.specs.Run.{Stop, NoTree, OutOfRange, Deep, Asked, Run}
use Rattle.ipg_core.specs.Meaning.{den, rule_on}
use Rattle.ipg_core.specs.Laws.{HeightsAgree, TurnsSuffice}
use Rattle.ipg_mach_moves.specs.Moves.{Key, OpenCall, Highest, Works, Holds, Known, Evaluation, Tally, one_opened, one_known, find, learned, Advance}
use Rattle.ipg_mach_moves.specs.Moves.{at_hand, opened, turned, always, silent, asked_part, asked_key, asks, works, move}
use Rattle.ipg_mach_moves.specs.Laws.{ParsesByOneCall}
use Rattle.ipg_mach_count_laws.specs.Counts.{key_or, keys_over, keys_in, Has, NoneTwice}
use Rattle.ipg_mach_count_laws.proofs.Follows.{Holding, Steps, follows}
use Rattle.ipg_mach_count_laws.proofs.Once.{Quiet, Asking, hand_once, reply}
use Rattle.ipg_mach_count_laws.proofs.Settled.{NotDeep, IsLast, not_deep, is_last}
use Rattle.ipg_mach_count_laws.proofs.Stays.{Goes, here, goes_by, goes_on}
use Rattle.ipg_mach_count_laws.specs.Standing.{StandsAt}
use Rattle.ipg_mach_count_laws.proofs.Heights.{keys_are}
use Rattle.ipg_mach_count_laws.proofs.Asked.{there, den_is, direct_is, found_is, right_is}
use Rattle.ipg_mach_count_laws.proofs.Grown.{Reached, Grown, grown_none, grown_both, grown_hit, grown_opened, keys_with, TooDeep, learnt_none, learnt_back}
use Rattle.ipg_mach_count_laws.proofs.Grown.{fine_then, has_left, has_right}
use Rattle.ipg_mach_count_laws.proofs.Found.{not_found}
use Rattle.ipg_mach_count_laws.proofs.Least.{least_of}
use Rattle.ipg_mach_count_laws.proofs.Landed.{evaluation, Home, Lands, back_here, lands_both, lands_after, Ready, fine_below, Counted}

module _ (s : List ℕ) (high : ℕ) (kept : List Key) where
  module _ (heights : HeightsAgree) (parses : ParsesByOneCall) (h : ℕ) (fits : h ≤ high) (below : (k : ℕ) → k ≤ h → Counted s high kept k)
      (answer : Result Tree Stop) (lower : List OpenCall) (at : Key) where
    abbrev keys_left : Grammar → ℕ → List ℕ → List Asked → List Key
    keys_left g from bytes asked = keys_over (keys_in g high) g from bytes asked

    abbrev Counts : Holding
    Counts g bytes from highest asked = NotDeep highest × IsLast answer highest asked
        × ((known : Known) (tally : Tally) (keys : List Key) → Ready s high kept g (suc h) from bytes (keys_left g from bytes asked) known keys
        → Lands s high kept g answer lower at (keys_left g from bytes asked) (evaluation lower highest known tally) known tally keys)

    module _ (c : OpenCall) (asked : List Asked) where
      abbrev g : Grammar
      g = c.frame.grammar

      abbrev bytes : List ℕ
      bytes = c.frame.bytes

      abbrev Here : Highest → List Asked → Type 0
      Here highest asked = Counts g bytes c.from highest asked

      quiet_step : Quiet (λ call. at_hand call c) → Here (turned c (at_hand silent c).answer) asked → Here (Works c) ((at_hand silent c).asked ++ asked)
      unfolding move
      quiet_step quiet q =
          subst (λ none. Here (Works c) (none ++ asked)) (sym quiet.none) (
            tt,
            tt,
            λ known tally keys ready.
                let goes : move (evaluation lower (Works c) known tally) ≡ evaluation lower (turned c (at_hand silent c).answer) known tally =
                ap (works (evaluation lower (Works c) known tally) c (at_hand silent c).answer) quiet.none in
                lands_after s high kept g answer lower at _ _ _ known tally keys (goes_by _ _ _ goes (here _)) (q.2 known tally keys ready),
          )

      module _ (one : Asking c.frame (λ call. at_hand call c)) where
        abbrev part_asked : List ℕ
        part_asked = asked_part c one.ask

        abbrev key : Key
        key = asked_key c one.ask

        abbrev holder : Option (ℕ × ℕ)
        holder = holder_of (rule_at g one.ask.callee)

        abbrev replied : Result Tree Stop
        replied = reply (den g h) c.frame one.ask

        abbrev made : Result Tree Stop → Result Advance Stop
        made answer = (at_hand (always answer) c).answer

        -- the keys of the calls that it makes
        abbrev inner : List Key
        inner = keys_in g high one.ask.callee (c.from + one.ask.from) part_asked one.ask.outer

        abbrev own : List Key
        own = key_or holder key inner

        shallow : Here (turned c (made replied)) asked → replied ≢ Err Deep
        shallow q deep = subst (λ a. NotDeep (turned c a)) (ap made deep ∙ one.deep) q.0

        -- ---- a call that is known

        known_step : (known : Known) (tally : Tally) (keys : List Key) (found : Result Tree Stop) → find known key ≡ Some found
            → Here (turned c (made replied)) asked → Ready s high kept g (suc h) c.from bytes (own ++ keys_left g c.from bytes asked) known keys
            → Lands s high kept g answer lower at (own ++ keys_left g c.from bytes asked) (evaluation lower (Works c) known tally) known tally keys
        unfolding move
        known_step known tally keys found e q ready =
            let right = ready.fine.right.each key found e in
            let is = found_is s c one ready.stands heights h found right.1 (shallow q) in
            let now = evaluation lower (Works c) known tally in
            let goes : move now ≡ evaluation lower (turned c (made replied)) known (one_known tally) =
            ap (works now c (at_hand silent c).answer) one.one ∙ ap (asks now c one.ask) e
            ∙ ap (λ a. evaluation lower (turned c (made a)) known (one_known tally)) is in
            let rest = q.2 known (one_known tally) keys (record {
              stands = ready.stands;
              fine = ready.fine;
              new = ready.new;
              owned = λ key has. ready.owned key (has_right own (keys_left g c.from bytes asked) key has);
            }) in
            let grown = subst (λ holder. Grown g s high kept (key_or holder key inner) tally keys (one_known tally) keys) (sym right.1.global)
            (grown_hit g s high kept key tally keys ready.new right.0) in
            lands_both s high kept g answer lower at own (keys_left g c.from bytes asked) now _ known known tally (one_known tally) keys keys
            (goes_by _ _ _ goes (here _)) grown (learnt_none g s high kept known keys ready.fine.right) rest

        -- ---- a call that is opened

        abbrev inside : Known → Tally → Evaluation
        inside known tally = evaluation (c ∷ lower) (opened g one.ask.callee part_asked (c.from + one.ask.from) one.ask.outer) known
            (one_opened tally holder (length lower + 2))

        opens : (known : Known) (tally : Tally) → find known key ≡ None → move (evaluation lower (Works c) known tally) ≡ inside known tally
        unfolding move
        opens known tally e =
            ap (works (evaluation lower (Works c) known tally) c (at_hand silent c).answer) one.one
            ∙ ap (asks (evaluation lower (Works c) known tally) c one.ask) e

        -- the height at which it runs
        record Runs (known : Known) (keys : List Key) : Type 0 where
          height : ℕ
          low : height ≤ h
          settled : den g height one.ask.callee part_asked one.ask.outer ≢ Err Deep
          ready : Ready s high kept g height (c.from + one.ask.from) part_asked inner known keys

        runs_at : (known : Known) (keys : List Key) (holder : Option (ℕ × ℕ)) → holder_of (rule_at g one.ask.callee) ≡ holder → find known key ≡ None
            → replied ≢ Err Deep
            → Ready s high kept g (suc h) c.from bytes (key_or holder key inner ++ keys_left g c.from bytes asked) known keys
            → Runs known (keys_with g s high kept holder key keys)
        runs_at known keys (Some place) is e settled ready = record {
          height = h;
          low = omega arith;
          settled = settled;
          ready = record {
            stands = there s c one ready.stands;
            fine = fine_below s high kept g h h known keys (omega arith) ready.fine;
            new = ready.new;
            owned = λ key has. ready.owned key (has_left inner (keys_left g c.from bytes asked) key has);
          };
        }
        runs_at known keys None is e settled ready =
            let it = least_of heights g h one.ask.callee part_asked one.ask.outer settled in
            let fine = fine_below s high kept g h it.least known keys it.low ready.fine in
            let too_deep : TooDeep g s high kept it.least key = λ k lt. den_is s c one ready.stands k is ∙ it.before k lt in
            let reached = ready.owned key (inl refl) in
            let not_kept : Has kept key → ⊥ = λ old. let knows = ready.fine.keeps key old in not_found (find known key) knows.0 e knows.1 in
            record {
              height = it.least;
              low = it.low;
              settled = it.settled;
              ready = record {
                stands = there s c one ready.stands;
                fine = record {
                  right = record {
                    each = λ other x found. let old = fine.right.each other x found in (elim old.0 [ inl has ↦ inl (inr has) | inr is ↦ inr is ], old.1);
                  };
                  keeps = fine.keeps;
                  opens = λ other has. elim has [ inl same ↦ inr (subst (TooDeep g s high kept it.least) same too_deep) | inr old ↦ fine.opens other old ];
                };
                new = record {
                  once = (
                    λ has. elim (ready.fine.opens key has) [
                      | inl knows ↦ absurd (not_found (find known key) knows.0 e knows.1)
                      | inr deep ↦ settled (sym (den_is s c one ready.stands h is) ∙ deep h (omega arith))
                    ],
                    ready.new.once,
                  );
                  apart = λ other has. elim has [ inl same ↦ subst (λ k. Has kept k → ⊥) same not_kept | inr old ↦ ready.new.apart other old ];
                  reached = λ other has. elim has [ inl same ↦ subst (Reached g s high kept) same reached | inr old ↦ ready.new.reached other old ];
                };
                owned = λ other has. (
                  key ∷ reached.0,
                  (subst (λ keys. Has keys other) (sym (direct_is s c one ready.stands high is)) has, reached.1),
                  λ one in_chain. elim in_chain [ inl same ↦ subst (λ k. Has kept k → ⊥) same not_kept | inr later ↦ reached.2 one later ],
                );
              };
            }

        -- ---- and comes back

        abbrev keys_more : List Key → List Key
        keys_more keys = keys_with g s high kept holder key keys

        abbrev tally_more : Tally → Tally
        tally_more tally = one_opened tally holder (length lower + 2)

        abbrev all_keys : List Key
        all_keys = own ++ keys_left g c.from bytes asked

        abbrev Inside : Result Tree Stop → Known → Tally → List Key → Type 0
        Inside given known tally keys = Lands s high kept g given (c ∷ lower) key inner (inside known tally) known (tally_more tally) (keys_more keys)

        grown_inside : (given : Result Tree Stop) (known : Known) (tally : Tally) (keys : List Key) → StandsAt s c.from bytes
            → (lands : Inside given known tally keys) → Grown g s high kept own tally keys lands.counted lands.more
        grown_inside given known tally keys stands lands =
            grown_opened g s high kept holder key inner (length lower + 2) tally lands.counted keys lands.more (direct_is s c one stands high) lands.grown

        returned : (given : Result Tree Stop) (known : Known) (tally : Tally) (keys : List Key) → replied ≡ given → Here (turned c (made given)) asked
            → replied ≢ Err Deep → Ready s high kept g (suc h) c.from bytes all_keys known keys → NoneTwice (keys_more keys)
            → (lands : Inside given known tally keys)
            → Home s high kept g lands.low (c ∷ lower) lands.key key known (keys_more keys) lands.later lands.more
            → move (evaluation (c ∷ lower) (Holds key given) lands.later lands.counted)
            ≡ evaluation lower (turned c (made given)) (learned holder lands.later key given) lands.counted
            → Lands s high kept g answer lower at all_keys (inside known tally) known tally keys
        returned given known tally keys is q settled ready once lands home popped =
            let grown = grown_inside given known tally keys ready.stands lands in
            let learnt = learnt_back g s high kept holder key given known lands.later keys lands.more once lands.grown.stay
            (right_is s c one ready.stands h given is settled) home.learnt in
            let goes = subst (λ k. Goes (inside known tally) (evaluation (c ∷ lower) (Holds k given) lands.later lands.counted)) home.same
            (subst (λ low. Goes (inside known tally) (evaluation low (Holds lands.key given) lands.later lands.counted)) home.place lands.goes) in
            let rest = q.2 (learned holder lands.later key given) lands.counted lands.more (record {
              stands = ready.stands;
              fine = fine_then g s high kept (suc h) known _ keys lands.more ready.fine learnt;
              new = grown.new;
              owned = λ key has. ready.owned key (has_right own (keys_left g c.from bytes asked) key has);
            }) in
            lands_both s high kept g answer lower at own (keys_left g c.from bytes asked) (inside known tally) _ known _ tally lands.counted keys lands.more
            (goes_on _ _ _ goes (goes_by _ _ _ popped (here _))) grown learnt rest

        comes_back : (given : Result Tree Stop) (known : Known) (tally : Tally) (keys : List Key) → replied ≡ given → Here (turned c (made given)) asked
            → replied ≢ Err Deep → Ready s high kept g (suc h) c.from bytes all_keys known keys → NoneTwice (keys_more keys)
            → Inside given known tally keys
            → Lands s high kept g answer lower at all_keys (inside known tally) known tally keys
        unfolding move
        comes_back (Ok tree) known tally keys is q settled ready once lands =
            returned (Ok tree) known tally keys is q settled ready once lands lands.back refl
        comes_back (Err NoTree) known tally keys is q settled ready once lands =
            returned (Err NoTree) known tally keys is q settled ready once lands lands.back refl
        comes_back (Err OutOfRange) known tally keys is q settled ready once lands =
            let last = subst (λ a. IsLast answer (turned c a) asked) one.range q.1 in
            let grown = grown_inside (Err OutOfRange) known tally keys ready.stands lands in
            subst (λ xs. Lands s high kept g answer lower at (own ++ keys_left g c.from bytes xs) (inside known tally) known tally keys) (sym last.0)
            (subst (λ a. Lands s high kept g a lower at (own ++ []) (inside known tally) known tally keys) (sym last.1) (record {
              low = lands.low;
              key = lands.key;
              later = lands.later;
              counted = lands.counted;
              more = lands.more;
              goes = lands.goes;
              grown = grown_both g s high kept own [] tally lands.counted lands.counted keys lands.more lands.more grown
                  (grown_none g s high kept lands.counted lands.more grown.new);
              back = tt;
            }))
        comes_back (Err Deep) known tally keys is q settled ready once lands = absurd (settled is)

        opened_step : (known : Known) (tally : Tally) (keys : List Key) → find known key ≡ None → Here (turned c (made replied)) asked
            → Ready s high kept g (suc h) c.from bytes all_keys known keys
            → Lands s high kept g answer lower at all_keys (evaluation lower (Works c) known tally) known tally keys
        opened_step known tally keys e q ready =
            let run = runs_at known keys holder refl e (shallow q) ready in
            let le = run.low in
            let lands = (below run.height run.low).each g one.ask.callee part_asked (c.from + one.ask.from) one.ask.outer (c ∷ lower) known (tally_more tally)
            (keys_more keys) (omega arith) run.settled run.ready in
            let same = sym (heights g run.height h one.ask.callee part_asked one.ask.outer run.low run.settled) in
            lands_after s high kept g answer lower at all_keys _ (inside known tally) known tally keys (goes_by _ _ _ (opens known tally e) (here _))
            (comes_back replied known tally keys refl q (shallow q) ready run.ready.new.once (subst (λ a. Inside a known tally keys) same lands))

        found_step : (known : Known) (tally : Tally) (keys : List Key) (found : Option (Result Tree Stop)) → find known key ≡ found
            → Here (turned c (made replied)) asked → Ready s high kept g (suc h) c.from bytes all_keys known keys
            → Lands s high kept g answer lower at all_keys (evaluation lower (Works c) known tally) known tally keys
        found_step known tally keys None e q ready = opened_step known tally keys e q ready
        found_step known tally keys (Some found) e q ready = known_step known tally keys found e q ready

        asking_step : Here (turned c (made replied)) asked → Here (Works c) (one.ask ∷ asked)
        asking_step q = (tt, tt, λ known tally keys ready. found_step known tally keys _ refl q ready)

    steps : Steps h Counts
    steps c asked = elim (hand_once parses c) [
      | inl quiet ↦
          subst (λ (run : Run Advance). Here c asked (turned c run.answer) asked → Here c asked (Works c) (run.asked ++ asked))
          (sym (quiet.is (den c.frame.grammar h))) (quiet_step c asked quiet)
      | inr one ↦
          subst (λ (run : Run Advance). Here c asked (turned c run.answer) asked → Here c asked (Works c) (run.asked ++ asked))
          (sym (one.is (den c.frame.grammar h))) (asking_step c asked one)
    ]

  module _ (heights : HeightsAgree) (parses : ParsesByOneCall) (suffice : TurnsSuffice) where
    counted_none : Counted s high kept 0
    unfolding den
    counted_none = record { each = λ g r bytes from outer lower known tally keys fits settled ready. absurd (settled refl) }

    counted_next : (h : ℕ) → ((k : ℕ) → k ≤ h → Counted s high kept k) → Counted s high kept (suc h)
    unfolding den
    counted_next h below = record {
      each = λ g r bytes from outer lower known tally keys fits settled ready.
          let answer = (rule_on (den g h) g r bytes outer).answer in
          let at : Key = record { rule = r; from = from; to = from + length bytes } in
          let low : h ≤ high = omega arith in
          let ends : Counts heights parses h low below answer lower at g bytes from (Holds at answer) [] = (
            not_deep at answer settled,
            is_last at answer,
            λ known tally keys ready. record {
              low = lower;
              key = at;
              later = known;
              counted = tally;
              more = keys;
              goes = here _;
              grown = grown_none g s high kept tally keys ready.new;
              back = back_here s high kept g answer lower at known keys ready.fine.right;
            },
          ) in
          let all = follows h (Counts heights parses h low below answer lower at) (steps heights parses h low below answer lower at) suffice
          from g r bytes outer ends in
          subst (λ own. Ready s high kept g (suc h) from bytes own known keys
          → Lands s high kept g answer lower at own (evaluation lower (opened g r bytes from outer) known tally) known tally keys)
          (sym (keys_are heights parses suffice g h high fits r from bytes outer settled)) (all.2 known tally keys) ready;
    }

    pub counted : (h k : ℕ) → k ≤ h → Counted s high kept k
    counted zero zero le = counted_none
    counted zero (suc k) le = absurd (omega arith)
    counted (suc h) zero le = counted_none
    counted (suc h) (suc k) le = counted_next k (λ j low. counted h j (omega arith))
