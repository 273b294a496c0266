-- The machine's moves are the evaluation's.
use Rattle.std.proofs.Common.{◌≡◌, ◌≢◌, ℕ, ◌+◌, ◌-◌, ◌<◌, ◌≤◌, arith, refl, sym, ap, ◌∙◌, subst, List, [], ◌∷◌, ◌++◌, length, Option, Some, None}
use Rattle.std.proofs.Common.{Result, Ok, Err, OnOk}
use Rattle.std.proofs.lemmas.List.{length-append}
use Rattle.std.proofs.lemmas.Option.{none-some, same_Some}
use Rattle.ipg_core.specs.Part.{part}
use Rattle.ipg_core.specs.Tree.{Tree}
use Rattle.ipg_core.specs.Within.{TreeWithin}
use Rattle.ipg_core.specs.Run.{Stop, NoTree, OutOfRange, Deep, Asked}
use Rattle.ipg_core.specs.Meaning as meaning
use Rattle.ipg_mach_moves.specs.Moves as moves
use Rattle.ipg_mach_moves.specs.Moves.{OpenCall, Evaluation, Highest, Works, Holds, Known, Tally, ended, ended_by, asked_part, asked_key, asks}
use Rattle.ipg_memo.specs.declared.memo.Key.{Key}
use Rattle.ipg_memo.specs.declared.memo.Entry.{Entry}
use Rattle.ipg_memo.specs.declared.memo.Entry.TheVariants as entry
use Rattle.ipg_mach_nodes.specs.declared.kid.Kid.TheVariants as kid
use Rattle.ipg_mach_term.specs.Advance.{EndsBy}
use Rattle.ipg_mach_nodes.specs.Stored.{Stored, Source, StandsTree, IsMark, before}
use Rattle.ipg_table.specs.Rows.{Rows}
use Rattle.ipg_mach.specs.Piled.{Piled, below, between}
use Rattle.ipg_mach.specs.declared.frame.Frame.{Frame}
use Rattle.ipg_region.specs.declared.region.RunId.{RunId}
use Rattle.ipg_mach_nodes.specs.declared.store.Mark.{Mark}
use Rattle.ipg_memo.specs.Keyed.{Entries}
use Rattle.ipg_mach.specs.declared.frame.HeldAnswer.{HeldAnswer}
use Rattle.ipg_mach.specs.declared.frame.HeldAnswer.TheVariants as held
use Rattle.ipg_mach.specs.declared.frame.NewCall.{NewCall}
use Rattle.ipg_tree_walk.specs.declared.parsed.Counts.{Counts}
use Rattle.ipg_mach.specs.Calls.{Shown, IsHighest, IsHolding, IsKey, IsAnswer, IsWorking, IsNew, IsSub, Wait, Keeps, size_of}
use Rattle.ipg_mach.specs.Known.{IsEntryOf, IsKnown, key_of}
use Rattle.ipg_mach.specs.Counted.{IsTally}
use Rattle.ipg_mach.specs.Stage.{Stage, IsAt, IsAsking, Remembers, kid_of, key_in}
use Rattle.ipg_mach.proofs.Reading.{lies}
use Rattle.ipg_mach.proofs.Working as working

no_last : {A : Type 0} (xs : List A) (x : A) → xs ++ x ∷ [] ≡ [] → ⊥
no_last [] x e = cc
no_last (y ∷ xs) x e = cc

pub both_ok : {A B : Type 0} (P Q : Type 0) (r : Result A B) → OnOk r P → OnOk r Q → OnOk r (P × Q)
both_ok P Q (Ok a) p q = (p, q)
both_ok P Q (Err b) p q = tt

-- ---- the machine goes on

module _ (src : Source) (s : Stage) (e : Evaluation) (at : IsAt src s e) where
  pub same_reader : (tables : Rows) (input : List ℕ) → tables ≡ s.tables → input ≡ s.input → IsAt src (record s { tables = tables; input = input }) e
  same_reader tables input t i = record {
    input = at.input ∙ sym i;
    highest = subst (λ x. IsHighest x src s.top s.frames e.lower e.highest) (sym t) at.highest;
    floor = at.floor;
    known = at.known;
    tally = at.tally;
  }

  pub goes_on : (top : Shown) (frames : List Frame) (lower : List OpenCall) (h : Highest) (counts : Counts) (tally : Tally) → Keeps s.top top
      → IsHighest s.tables src top frames lower h → IsTally counts tally
      → IsAt src (record s { top = top; frames = frames; counts = counts }) (record e { lower = lower; highest = h; tally = tally })
  goes_on top frames lower h counts tally keeps highest counted = record {
    input = at.input;
    highest = highest;
    floor = keeps.mark;
    known = subst (λ st. IsKnown src st s.memo e.known) (sym keeps.before) at.known;
    tally = counted;
  }

  pub is_working : (c : OpenCall) → e.highest ≡ Works c → IsWorking s.tables src s.top s.frames e.lower c
  is_working c works = subst (IsHighest s.tables src s.top s.frames e.lower) works at.highest

-- ---- answers that are known

module _ (src : Source) (st : Stored) (key : Key) (at : ℕ) (ask : Asked) (answer : Result Tree Stop) where
  pub sub_of : (found : Entry) (from to : ℕ) → IsEntryOf src st key (Some found) (Some answer) → key.from ≡ at + from → key.to ≡ at + to
      → ask.from ≡ from → ask.to ≡ to → IsSub src st at ask (kid_of found from to) answer
  sub_of entry.NoTree from to h begins ends is_from is_to = h
  sub_of (entry.Node id) from to h begins ends is_from is_to =
      let there : at + ask.from ≡ key.from = ap (λ n. at + n) is_from ∙ sym begins in
      let size : key.to - key.from ≡ ask.to - ask.from = omega arith in (
        id,
        ap (λ n. kid.Node id n to) (sym is_from) ∙ ap (kid.Node id ask.from) (sym is_to),
        h.0,
        h.1,
        subst (λ n. StandsTree src st n id h.0) (sym there) h.2,
        subst (λ n. TreeWithin n h.0) size h.3,
      )

-- ---- calls that are made

pub wait_length : (t : Rows) (src : Source) (st : Stored) (frames : List Frame) (p : Piled) (from to : ℕ) (lower : List OpenCall)
    → Wait t src st frames p from to lower → length frames ≡ length lower
wait_length t src st frames p from to [] wait = ap length wait.0
wait_length t src st frames p from to (c ∷ lower) wait =
    let rest = wait_length t src (before st wait.0.mark) wait.1 (below p wait.0.base) wait.0.from wait.0.to lower wait.4 in
    let more = length-append wait.1 (wait.0 ∷ []) in
    let same = ap length wait.2 in
    omega arith

module _ (t : Rows) (src : Source) (s : Shown) (frames : List Frame) (lower : List OpenCall) (c : OpenCall) (work : IsWorking t src s frames lower c)
    (rule from to : ℕ) (q : IsAsking s.frame c rule from to) where
  -- the call that is asked for lies in the part
  pub within : (q.call.ask.from ≤ q.call.ask.to) × (q.call.ask.to ≤ size_of s.frame)
  within =
      let whole = working.part_size t src s.frame (below s.piles s.frame.base) c.frame c.from work.at_work.is_open.call in
      let a = q.call.is_from in let b = q.call.is_to in let v = q.call.valid in let i = q.call.inside in (omega arith, omega arith)

  -- the frame of the call that is asked for
  abbrev pub frame_of : meaning.Frame
  frame_of = record { grammar = c.frame.grammar; rule = q.call.ask.callee; alt = 0; bytes = asked_part c q.call.ask; outer = q.call.ask.outer }

  pub waits : (first last : ℕ) → first ≡ s.frame.from + from → last ≡ s.frame.from + to
      → Wait t src s.store (frames ++ s.frame ∷ []) s.piles first last (c ∷ lower)
  waits first last begins ends = (
    s.frame,
    frames,
    refl,
    record {
      base = work.at_work.base;
      mark = work.at_work.mark;
      is_open = work.at_work.is_open;
      entry = work.entry;
      awaits = record {
        ask = q.call.ask;
        asks = q.call.is_asked;
        begins = ap (λ n. s.frame.from + n) q.call.is_from ∙ sym begins;
        ends = ap (λ n. s.frame.from + n) q.call.is_to ∙ sym ends;
        valid = within.0;
        inside = let i = within.1 in let e = q.call.is_to in let o = work.at_work.is_open.call.ordered in omega arith;
        bounded = subst (EndsBy s.frame.entry) (sym q.call.is_to) q.bounded;
      };
    },
    work.at_work.wait,
  )

  pub is_new : (new : NewCall) → new.rule ≡ rule → new.from ≡ s.frame.from + from → new.to ≡ s.frame.from + to
      → q.call.ask.outer ≡ between s.piles.own new.outer.from new.outer.to → new.outer.to ≤ length s.piles.own
      → IsNew t src s (frames ++ s.frame ∷ []) (c ∷ lower) new frame_of (c.from + q.call.ask.from)
  is_new new is_rule begins ends outer outer_inside =
      let call = work.at_work.is_open.call in
      let ordered = call.ordered in
      let inside = call.inside in
      let valid = q.call.valid in
      let whole = working.part_size t src s.frame (below s.piles s.frame.base) c.frame c.from call in
      record {
        answer = work.at_work.answer;
        syms = call.syms;
        tables = call.tables;
        rule = q.call.is_rule ∙ sym is_rule;
        first = refl;
        begins = ap (λ n. n + q.call.ask.from) call.begins ∙ ap (λ n. s.frame.from + n) q.call.is_from ∙ sym begins;
        ordered = omega arith;
        inside = let i = q.call.inside in omega arith;
        bytes = ap (λ n. part c.frame.bytes n q.call.ask.to) q.call.is_from ∙ ap (part c.frame.bytes from) q.call.is_to
            ∙ ap (λ b. part b from to) call.bytes
            ∙ sym (lies src.input s.frame.from s.frame.to from to valid (subst (λ n. to ≤ n) (ap length call.bytes) q.call.inside))
            ∙ ap (λ n. part src.input n (s.frame.from + to)) (sym begins) ∙ ap (part src.input new.from) (sym ends);
        outer = outer;
        outer_inside = outer_inside;
        wait = waits new.from new.to begins ends;
      }

  -- the key of the call
  pub key_is : (key : Key) → key.rule ≡ rule → key.from ≡ s.frame.from + from → key.to ≡ s.frame.from + to → asked_key c q.call.ask ≡ key_of key
  key_is key is_rule begins ends =
      let call = work.at_work.is_open.call in
      let ask = q.call.ask in
      let is_from = q.call.is_from in
      let is_to = q.call.is_to in
      let valid = q.call.valid in
      let inside = q.call.inside in
      let size = working.part_length c.frame.bytes ask.from ask.to (omega arith) (omega arith) in
      let first : c.from + ask.from ≡ key.from = let b = call.begins in omega arith in
      let last : c.from + ask.from + length (asked_part c ask) ≡ key.to = let b = call.begins in omega arith in
      ap (λ n. let k : moves.Key = record { rule = n; from = c.from + ask.from; to = c.from + ask.from + length (asked_part c ask) } in k)
      (q.call.is_rule ∙ sym is_rule)
      ∙ ap (λ n. let k : moves.Key = record { rule = key.rule; from = n; to = c.from + ask.from + length (asked_part c ask) } in k) first
      ∙ ap (λ n. let k : moves.Key = record { rule = key.rule; from = key.from; to = n } in k) last

-- what is known of a call

pub some_known : (src : Source) (st : Stored) (key : Key) (one : Entry) (found : Option (Result Tree Stop)) → IsEntryOf src st key (Some one) found
    → (answer : Result Tree Stop) × (found ≡ Some answer) × IsEntryOf src st key (Some one) (Some answer)
some_known src st key one (Some answer) h = (answer, refl, h)
some_known src st key entry.NoTree None h = absurd h
some_known src st key (entry.Node id) None h = absurd h

pub none_known : (src : Source) (st : Stored) (key : Key) (found : Option (Result Tree Stop)) → IsEntryOf src st key None found → found ≡ None
none_known src st key None h = refl
none_known src st key (Some answer) h = absurd h

-- ---- calls that come back

pub other_floor : (t : Rows) (src : Source) (s : Shown) (frames : List Frame) (lower : List OpenCall) (key : moves.Key) (answer : Result Tree Stop)
    → IsHolding t src s frames lower key answer → (floor : Mark) → IsHolding t src (record s { floor = floor }) frames lower key answer
other_floor t src s frames lower key answer h floor = record {
  held = h.held;
  holds = h.holds;
  is_key = h.is_key;
  is = h.is;
  mark = h.mark;
  wait = h.wait;
}

pub same_key : (frame : Frame) (key : moves.Key) → IsKey frame key → key_of (key_in frame) ≡ key
same_key frame key is =
    ap (λ n. let k : moves.Key = record { rule = n; from = frame.from; to = frame.to } in k) (sym is.rule)
    ∙ ap (λ n. let k : moves.Key = record { rule = key.rule; from = n; to = frame.to } in k) (sym is.from)
    ∙ ap (λ n. let k : moves.Key = record { rule = key.rule; from = key.from; to = n } in k) (sym is.to)

module _ (src : Source) (s : Stage) (e : Evaluation) (at : IsAt src s e) where
  pub is_holding : (c : OpenCall) (lower : List OpenCall) (key : moves.Key) (answer : Result Tree Stop) → e.highest ≡ Holds key answer → e.lower ≡ c ∷ lower
      → IsHolding s.tables src s.top s.frames (c ∷ lower) key answer
  is_holding c lower key answer holds is_lower =
      subst (λ lower. IsHolding s.tables src s.top s.frames lower key answer) is_lower
      (subst (IsHighest s.tables src s.top s.frames e.lower) holds at.highest)

  pub resumed_at : (c : OpenCall) (lower : List OpenCall) (top : Shown) (frames : List Frame) (memo : Option Entries) (known : Option Known)
      → IsWorking s.tables src top frames lower c → IsMark top.store top.floor → IsKnown src (before top.store top.floor) memo known
      → IsAt src (record s { top = top; frames = frames; memo = memo }) (record e { lower = lower; highest = Works c; known = known })
  resumed_at c lower top frames memo known work mark knows =
      record { input = at.input; highest = work; floor = mark; known = knows; tally = at.tally }

  -- the call below the highest, if there is one
  lower_of : (lower : List OpenCall) (key : moves.Key) (answer : Result Tree Stop) → IsHolding s.tables src s.top s.frames lower key answer
      → 0 < length s.frames → (c : OpenCall) × (more : List OpenCall) × (lower ≡ c ∷ more)
  lower_of [] key answer h some = absurd (omega (arith, ap length h.wait.0, some))
  lower_of (c ∷ lower) key answer h some = (c, lower, refl)

  pub waits_one : (key : moves.Key) (answer : Result Tree Stop) → e.highest ≡ Holds key answer → 0 < length s.frames
      → (c : OpenCall) × (more : List OpenCall) × (e.lower ≡ c ∷ more)
  waits_one key answer holds some = lower_of e.lower key answer (subst (IsHighest s.tables src s.top s.frames e.lower) holds at.highest) some

  none_below : (lower : List OpenCall) (key : moves.Key) (answer : Result Tree Stop) → IsHolding s.tables src s.top s.frames lower key answer
      → s.frames ≡ [] → lower ≡ []
  none_below [] key answer h frames = refl
  none_below (c ∷ lower) key answer h frames = absurd (no_last h.wait.1 h.wait.0 (sym h.wait.2 ∙ frames))

  pub waits_none : (key : moves.Key) (answer : Result Tree Stop) → e.highest ≡ Holds key answer → s.frames ≡ [] → e.lower ≡ []
  waits_none key answer holds frames =
      none_below e.lower key answer (subst (IsHighest s.tables src s.top s.frames e.lower) holds at.highest) frames

-- ---- what the highest call is at

module _ (t : Rows) (src : Source) (s : Shown) (frames : List Frame) (lower : List OpenCall) where
  pub at_work : (h : Highest) → IsHighest t src s frames lower h → s.answer ≡ None → (c : OpenCall) × (h ≡ Works c)
  at_work (Works c) is none = (c, refl)
  at_work (Holds key answer) is none = absurd (none-some is.held (sym none ∙ is.holds))

  pub holding : (h : Highest) (held : HeldAnswer) → IsHighest t src s frames lower h → s.answer ≡ Some held
      → (key : moves.Key) × (answer : Result Tree Stop) × (h ≡ Holds key answer) × IsAnswer src s.store s.frame.from (size_of s.frame) held answer
  holding (Works c) held is some = absurd (none-some held (sym is.at_work.answer ∙ some))
  holding (Holds key answer) held is some =
      (key, answer, refl, subst (λ h. IsAnswer src s.store s.frame.from (size_of s.frame) h answer) (same_Some is.held held (sym is.holds ∙ some)) is.is)

-- what is remembered, seen after the call below has gone on
pub same_memory : (src : Source) (st more : Stored) (floor kept : Mark) (memo : Option Entries) (known : Option Known) → more ≡ st → kept ≡ floor
    → Remembers src st floor memo known → Remembers src more kept memo known
same_memory src st more floor kept memo known e f h =
    subst (λ m. Remembers src more m memo known) (sym f) (subst (λ at. Remembers src at floor memo known) (sym e) h)

-- as many frames wait as calls
pub count_waits : (t : Rows) (src : Source) (s : Shown) (frames : List Frame) (lower : List OpenCall) (h : Highest) → IsHighest t src s frames lower h
    → length frames ≡ length lower
count_waits t src s frames lower (Works c) is =
    wait_length t src (before s.store s.frame.mark) frames (below s.piles s.frame.base) s.frame.from s.frame.to lower is.at_work.wait
count_waits t src s frames lower (Holds key answer) is =
    wait_length t src (before s.store s.frame.mark) frames s.piles s.frame.from s.frame.to lower is.wait

-- ---- the end

-- where the lowest call holds its answer, or a value left 64 bits, it has ended
module _ (src : Source) (s : Stage) (e : Evaluation) (at : IsAt src s e) where
  pub goes : s.top.answer ≡ None → ended e ≡ None
  goes none =
      let one = at_work s.tables src s.top s.frames e.lower e.highest at.highest none in
      ap (ended_by e.lower) one.1

  pub ranged : s.top.answer ≡ Some held.Range → ended e ≡ Some (Err OutOfRange)
  ranged some =
      let one = holding s.tables src s.top s.frames e.lower e.highest held.Range at.highest some in
      ap (ended_by e.lower) (one.2 ∙ ap (Holds one.0) one.3)

  ended_so : (lower : List OpenCall) (key : moves.Key) (answer : Result Tree Stop) → lower ≡ [] → ended_by lower (Holds key answer) ≡ Some answer
  ended_so [] key (Ok one) none = refl
  ended_so [] key (Err NoTree) none = refl
  ended_so [] key (Err OutOfRange) none = refl
  ended_so [] key (Err Deep) none = refl
  ended_so (c ∷ lower) key answer none = absurd (cc)

  waits_so : (lower : List OpenCall) (key : moves.Key) (answer : Result Tree Stop) → (c : OpenCall) × (more : List OpenCall) × (lower ≡ c ∷ more)
      → answer ≢ Err OutOfRange → ended_by lower (Holds key answer) ≡ None
  waits_so [] key answer one sound = absurd (let no = one.2 in cc)
  waits_so (c ∷ lower) key (Ok tree) one sound = refl
  waits_so (c ∷ lower) key (Err NoTree) one sound = refl
  waits_so (c ∷ lower) key (Err OutOfRange) one sound = absurd (sound refl)
  waits_so (c ∷ lower) key (Err Deep) one sound = refl

  pub lowest_holds : (one : HeldAnswer) → s.top.answer ≡ Some one → s.frames ≡ []
      → (answer : Result Tree Stop) × (ended e ≡ Some answer) × IsAnswer src s.top.store s.top.frame.from (size_of s.top.frame) one answer
  lowest_holds one some frames =
      let is = holding s.tables src s.top s.frames e.lower e.highest one at.highest some in
      (is.1, ap (ended_by e.lower) is.2 ∙ ended_so e.lower is.0 is.1 (waits_none src s e at is.0 is.1 is.2 frames), is.3)

  not_ranged : (one : HeldAnswer) (answer : Result Tree Stop) → one ≢ held.Range → IsAnswer src s.top.store s.top.frame.from (size_of s.top.frame) one answer
      → answer ≢ Err OutOfRange
  not_ranged (held.Node id) answer sound is range = let e = sym is.1 ∙ range in absurd (cc)
  not_ranged held.NoTree answer sound is range = let e = sym is ∙ range in absurd (cc)
  not_ranged held.Range answer sound is range = absurd (sound refl)

  pub still_waits : (one : HeldAnswer) → s.top.answer ≡ Some one → one ≢ held.Range → 0 < length s.frames → ended e ≡ None
  still_waits one some sound more =
      let is = holding s.tables src s.top s.frames e.lower e.highest one at.highest some in
      ap (ended_by e.lower) is.2
      ∙ waits_so e.lower is.0 is.1 (waits_one src s e at is.0 is.1 is.2 more) (not_ranged one is.1 sound is.3)

-- what it has ended with is what the highest call holds; a tree is that of the lowest call

ended_is : (lower : List OpenCall) (key : moves.Key) (held answer : Result Tree Stop) → ended_by lower (Holds key held) ≡ Some answer → held ≡ answer
ended_is [] key (Ok one) answer e = same_Some _ answer e
ended_is [] key (Err NoTree) answer e = same_Some _ answer e
ended_is [] key (Err OutOfRange) answer e = same_Some _ answer e
ended_is [] key (Err Deep) answer e = same_Some _ answer e
ended_is (c ∷ lower) key (Ok one) answer e = absurd (none-some answer e)
ended_is (c ∷ lower) key (Err NoTree) answer e = absurd (none-some answer e)
ended_is (c ∷ lower) key (Err OutOfRange) answer e = same_Some _ answer e
ended_is (c ∷ lower) key (Err Deep) answer e = absurd (none-some answer e)

lowest_is : (lower : List OpenCall) (key : moves.Key) (one : Tree) (answer : Result Tree Stop) → ended_by lower (Holds key (Ok one)) ≡ Some answer → lower ≡ []
lowest_is [] key one answer e = refl
lowest_is (c ∷ lower) key one answer e = absurd (none-some answer e)

module _ (src : Source) (s : Stage) (e : Evaluation) (at : IsAt src s e) (answer : Result Tree Stop) (ends : ended e ≡ Some answer) where
  pub ends_with : (one : HeldAnswer) → s.top.answer ≡ Some one → IsAnswer src s.top.store s.top.frame.from (size_of s.top.frame) one answer
  ends_with one some =
      let is = holding s.tables src s.top s.frames e.lower e.highest one at.highest some in
      subst (IsAnswer src s.top.store s.top.frame.from (size_of s.top.frame) one)
      (ended_is e.lower is.0 is.1 answer (sym (ap (ended_by e.lower) is.2) ∙ ends)) is.3

  whole_by : (lower : List OpenCall) (key : moves.Key) (held : Result Tree Stop) → IsHolding s.tables src s.top s.frames lower key held → lower ≡ []
      → (s.top.frame.from ≡ 0) × (s.top.frame.to ≡ length src.input)
  whole_by [] key held h none = (h.wait.1, h.wait.2)
  whole_by (c ∷ lower) key held h none = absurd (cc)

  -- where it is a tree, it is that of the whole input
  pub whole : (id : RunId) → s.top.answer ≡ Some (held.Node id) → (s.top.frame.from ≡ 0) × (s.top.frame.to ≡ length src.input)
  whole id some =
      let is = holding s.tables src s.top s.frames e.lower e.highest (held.Node id) at.highest some in
      let tree = is.3 in
      let ok = is.2 ∙ ap (Holds is.0) tree.1 in
      whole_by e.lower is.0 (Ok tree.0) (subst (IsHighest s.tables src s.top s.frames e.lower) ok at.highest)
      (lowest_is e.lower is.0 tree.0 answer (sym (ap (ended_by e.lower) ok) ∙ ends))

  final_by : (one : HeldAnswer) → s.top.answer ≡ Some one → IsAnswer src s.top.store s.top.frame.from (size_of s.top.frame) one answer
      → IsAnswer src s.top.store 0 (length src.input) one answer
  final_by (held.Node id) some is =
      let at_start = whole id some in
      let size : size_of s.top.frame ≡ length src.input = let a = at_start.0 in let b = at_start.1 in omega arith in
      (is.0, is.1, subst (λ n. StandsTree src s.top.store n id is.0) at_start.0 is.2, subst (λ n. TreeWithin n is.0) size is.3)
  final_by held.NoTree some is = is
  final_by held.Range some is = is

  pub final : (one : HeldAnswer) → s.top.answer ≡ Some one → IsAnswer src s.top.store 0 (length src.input) one answer
  final one some = final_by one some (ends_with one some)
