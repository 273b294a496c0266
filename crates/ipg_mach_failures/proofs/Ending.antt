-- An evaluation that ends with no tree has met a failure; one that has ended meets none.
use Rattle.std.proofs.Common.{◌≡◌, ◌≢◌, ℕ, zero, suc, ◌+◌, refl, sym, ap, ◌∙◌, subst, arith, List, [], ◌∷◌, Option, Some, None, Result, Ok, Err, Bool}
use Rattle.std.proofs.Common.{true, false}
use Rattle.std.specs.Prelude.{if◌then◌else◌}
use Rattle.std.specs.List.{AllByRecursion}
use Rattle.ipg_core.specs.Grammar.{Grammar, rule_at, holder_of}
use Rattle.ipg_core.specs.Good.{Good}
use Rattle.ipg_core.specs.Tree.{Tree}
use Rattle.ipg_core.specs.Run.{Stop, NoTree, OutOfRange, Deep, Asked}
use Rattle.ipg_core.specs.Meaning.{Frame}
use Rattle.ipg_mach_moves.specs.Moves.{Key, Known, OpenCall, Highest, Works, Holds, Evaluation, same_key, find, known_of, learned, learn, silent, always}
use Rattle.ipg_mach_moves.specs.Moves.{at_hand, begins, alts_of, asked_part, asked_key, asks, works, returns, move_by, move, moves, opening, ended_by}
use Rattle.ipg_mach_moves.specs.Moves.{ended}
use Rattle.ipg_mach_failures.specs.declared.failure.Failure.{Failure}
use Rattle.ipg_mach_failures.specs.declared.story.Call.{Call}
use Rattle.ipg_mach_failures.specs.declared.story.Story.{Story}
use Rattle.ipg_mach_failures.specs.declared.values.Valued.{Valued}
use Rattle.ipg_mach_failures.specs.Failing.{call_fails}
use Rattle.ipg_mach_failures.specs.Chain.{calls_of}
use Rattle.ipg_mach_failures.specs.Furthest.{highest_fails, highest_reads, failure_of, story_with, story_of, in_front, stories}
use Rattle.ipg_mach_failures.specs.Laws.{is_no_tree, SomeWhereNone, NoneBehindEnd}
use Rattle.ipg_mach_failures.proofs.Alive.{Alive, HasSome, onward, begins_alive}
use Rattle.ipg_mach_failures.proofs.Calling.{callee_there}

-- no call is known to have no tree
abbrev NoneKnown : Option Known → Type 0
NoneKnown known = (key : Key) → known_of known key ≢ Some (Err NoTree)

record Waits (g : Grammar) (c : OpenCall) : Type 0 where
  alive : Alive g c
  quiet : call_fails c ≡ None

record Sound (g : Grammar) (e : Evaluation) : Type 0 where
  known : NoneKnown e.known
  lower : AllByRecursion (Waits g) e.lower
  highest : HasSome g e.highest

not_none : (answer : Result Tree Stop) → answer ≢ Err NoTree → is_no_tree answer ≡ false
not_none (Ok tree) h = refl
not_none (Err NoTree) h = absurd (h refl)
not_none (Err OutOfRange) h = refl
not_none (Err Deep) h = refl

is_some_tree : (answer : Result Tree Stop) → is_no_tree answer ≡ false → Some answer ≢ Some (Err NoTree)
is_some_tree (Ok tree) h e = cc
is_some_tree (Err NoTree) h e = cc
is_some_tree (Err OutOfRange) h e = cc
is_some_tree (Err Deep) h e = cc

found : (b : Bool) (answer : Result Tree Stop) (other : Option (Result Tree Stop)) → is_no_tree answer ≡ false → other ≢ Some (Err NoTree)
    → (if b then Some answer else other) ≢ Some (Err NoTree)
found true answer other h o = is_some_tree answer h
found false answer other h o = o

learned_none : (holder : Option (ℕ × ℕ)) (known : Known) (key : Key) (answer : Result Tree Stop) → is_no_tree answer ≡ false → NoneKnown (Some known)
    → NoneKnown (Some (learned holder known key answer))
learned_none None known key answer h none other = found (same_key key other) answer (find known other) h (none other)
learned_none (Some holder) known key answer h none other = none other

learn_none : (g : Grammar) (known : Option Known) (key : Key) (answer : Result Tree Stop) → is_no_tree answer ≡ false → NoneKnown known
    → NoneKnown (learn g known key answer)
learn_none g None key answer h none = none
learn_none g (Some known) key answer h none = learned_none (holder_of (rule_at g key.rule)) known key answer h none

module _ (g : Grammar) (good : Good g) where
  asks_sound : (e : Evaluation) (c : OpenCall) (ask : Asked) (more : List Asked) → Sound g e → Alive g c → call_fails c ≡ None
      → (at_hand silent c).asked ≡ ask ∷ more → (known : Option (Result Tree Stop)) → known_of e.known (asked_key c ask) ≡ known
      → Sound g (asks e c ask known)
  asks_sound e c ask more sound alive none is (Some answer) has = record {
    known = sound.known;
    lower = sound.lower;
    highest = onward g (always answer) c
        (λ r s outer. not_none answer (λ no. sound.known (asked_key c ask) (has ∙ ap Some no))) alive none;
  }
  asks_sound e c ask more sound alive none is None has =
      let there = callee_there g c ask more good alive is in
      let rule : rule_at c.frame.grammar ask.callee ≡ Some there.0 = ap (λ h. rule_at h ask.callee) alive.grammar ∙ there.1 in
      let f : Frame = record { grammar = c.frame.grammar; rule = ask.callee; alt = 0; bytes = asked_part c ask; outer = ask.outer } in
      record {
        known = sound.known;
        lower = (record { alive = alive; quiet = none }, sound.lower);
        highest = subst (λ r. HasSome g (begins f (c.from + ask.from) (alts_of r))) (sym rule)
            (begins_alive g f (c.from + ask.from) there.0 good alive.grammar refl there.1);
      }

  works_sound : (e : Evaluation) (c : OpenCall) → Sound g e → Alive g c → call_fails c ≡ None → (asked : List Asked) → (at_hand silent c).asked ≡ asked
      → Sound g (works e c (at_hand silent c).answer asked)
  works_sound e c sound alive none [] is =
      record { known = sound.known; lower = sound.lower; highest = onward g silent c (λ r s outer. refl) alive none }
  works_sound e c sound alive none (ask ∷ more) is = asks_sound e c ask more sound alive none is _ refl

  returns_sound : (e : Evaluation) (key : Key) (answer : Result Tree Stop) (lower : List OpenCall) → Sound g e → AllByRecursion (Waits g) lower
      → is_no_tree answer ≡ false → Sound g (returns e key answer lower)
  returns_sound e key answer [] sound waits some = sound
  returns_sound e key answer (c ∷ lower) sound waits some = record {
    known = learn_none c.frame.grammar e.known key answer some sound.known;
    lower = waits.1;
    highest = onward g (always answer) c (λ r s outer. some) waits.0.alive waits.0.quiet;
  }

  move_sound_by : (e : Evaluation) (highest : Highest) → Sound g e → HasSome g highest → highest_fails highest ≡ None → Sound g (move_by e highest)
  move_sound_by e (Works c) sound alive none = works_sound e c sound alive none _ refl
  move_sound_by e (Holds key (Ok tree)) sound some none = returns_sound e key (Ok tree) e.lower sound sound.lower some
  move_sound_by e (Holds key (Err NoTree)) sound some none = absurd (cc)
  move_sound_by e (Holds key (Err OutOfRange)) sound some none = sound
  move_sound_by e (Holds key (Err Deep)) sound some none = returns_sound e key (Err Deep) e.lower sound sound.lower some

  move_sound : (e : Evaluation) → Sound g e → failure_of e ≡ None → Sound g (move e)
  unfolding move
  move_sound e sound none = move_sound_by e e.highest sound sound.highest none

  none_first : (calls : List Call) (read : Failure → List Valued) (failure : Option Failure) (met : List Story)
      → in_front (story_with calls read failure) met ≡ []
      → (failure ≡ None) × (met ≡ [])
  none_first calls read None met e = (refl, e)
  none_first calls read (Some failure) met e = absurd (cc)

  moves_sound : (n : ℕ) (e : Evaluation) → Sound g e → stories n e ≡ [] → Sound g (moves n e)
  unfolding moves stories
  moves_sound zero e sound none = sound
  moves_sound (suc n) e sound none =
      let parts = none_first (calls_of e) (highest_reads e.highest) (failure_of e) (stories n (move e)) none in
      moves_sound n (move e) (move_sound e sound parts.0) parts.1

  opens : (s : List ℕ) (known : Option Known) → NoneKnown known → Sound g (opening g s known)
  unfolding opening
  opens s known none =
      let first = good.well_formed.first in
      let f : Frame = record { grammar = g; rule = 0; alt = 0; bytes = s; outer = [] } in
      record {
        known = none;
        lower = tt;
        highest = subst (λ r. HasSome g (begins f 0 (alts_of r))) (sym first.1) (begins_alive g f 0 first.0 good refl refl first.1);
      }

ends_some : (g : Grammar) (lower : List OpenCall) (highest : Highest) → HasSome g highest → ended_by lower highest ≢ Some (Err NoTree)
ends_some g lower (Works c) some e = cc
ends_some g lower (Holds key (Err OutOfRange)) some e = cc
ends_some g lower (Holds key (Err NoTree)) some e = cc
ends_some g [] (Holds key (Ok tree)) some e = cc
ends_some g [] (Holds key (Err Deep)) some e = cc
ends_some g (c ∷ lower) (Holds key (Ok tree)) some e = cc
ends_some g (c ∷ lower) (Holds key (Err Deep)) some e = cc

pub some_where_none : SomeWhereNone
some_where_none g s known n good none ends met =
    let e = moves n (opening g s known) in
    ends_some g e.lower e.highest (moves_sound g good n (opening g s known) (opens g good s known none) met).highest ends

-- ---- behind the end

quiet_by : (lower : List OpenCall) (highest : Highest) (answer : Result Tree Stop) → ended_by lower highest ≡ Some answer → highest_fails highest ≡ None
quiet_by lower (Works c) answer e = absurd (cc)
quiet_by lower (Holds key held) answer e = refl

stays_by : (e : Evaluation) (highest : Highest) (lower : List OpenCall) (answer : Result Tree Stop) → e.lower ≡ lower → ended_by lower highest ≡ Some answer
    → move_by e highest ≡ e
stays_by e (Works c) lower answer is ends = absurd (cc)
stays_by e (Holds key (Err OutOfRange)) lower answer is ends = refl
stays_by e (Holds key (Ok tree)) [] answer is ends = rw is refl
stays_by e (Holds key (Ok tree)) (c ∷ lower) answer is ends = absurd (cc)
stays_by e (Holds key (Err NoTree)) [] answer is ends = rw is refl
stays_by e (Holds key (Err NoTree)) (c ∷ lower) answer is ends = absurd (cc)
stays_by e (Holds key (Err Deep)) [] answer is ends = rw is refl
stays_by e (Holds key (Err Deep)) (c ∷ lower) answer is ends = absurd (cc)

none_behind : (k : ℕ) (e : Evaluation) (answer : Result Tree Stop) → ended e ≡ Some answer → stories k e ≡ []
unfolding stories move
none_behind zero e answer ends = refl
none_behind (suc k) e answer ends =
    let stays : move e ≡ e = stays_by e e.highest e.lower answer refl ends in
    ap (λ f. in_front (story_with (calls_of e) (highest_reads e.highest) f) (stories k (move e))) (quiet_by e.lower e.highest answer ends)
    ∙ ap (stories k) stays ∙ none_behind k e answer ends

pub none_behind_end : NoneBehindEnd
unfolding stories moves
none_behind_end e answer zero k ends = let is : zero + k ≡ k = omega arith in ap (λ m. stories m e) is ∙ none_behind k e answer ends
none_behind_end e answer (suc n) k ends =
    let is : suc n + k ≡ suc (n + k) = omega arith in
    ap (λ m. stories m e) is ∙ ap (in_front (story_of e)) (none_behind_end (move e) answer n k ends)
