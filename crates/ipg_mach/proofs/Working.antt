-- A call at work stays so as it comes to more.
use Rattle.std.proofs.Common.{◌≡◌, ◌≢◌, ℕ, ◌+◌, ◌-◌, ◌≤◌, arith, refl, sym, ap, ◌∙◌, subst}
use Rattle.std.proofs.Common.{List, [], ◌∷◌, drop, length, replicate, Some, None, Result, Ok, Err, Bor}
use Rattle.std.proofs.lemmas.List.{length-replicate, length-take, length-drop, drop-drop}
use Rattle.ipg_core.specs.declared.grammar.CoreAlt.{CoreAlt}
use Rattle.ipg_core.specs.Grammar.{rule_at}
use Rattle.ipg_core.specs.Run.{Stop, NoTree, stop}
use Rattle.ipg_core.specs.Part.{part}
use Rattle.ipg_core.specs.Tree as tree
use Rattle.ipg_core.specs.Tree.{Tree}
use Rattle.ipg_core.specs.Meaning as meaning
use Rattle.ipg_core.specs.Meaning.{Call, State, node_of}
use Rattle.ipg_mach_moves.specs.Moves as moves
use Rattle.ipg_mach_moves.specs.Moves.{OpenCall, Past, turned, begins, runs_on, key_at, first_left, at_hand}
use Rattle.ipg_mach_nodes.specs.declared.store.Mark.{Mark}
use Rattle.ipg_mach_nodes.specs.Stored.{Stored, Source, IsMark, before}
use Rattle.ipg_mach_nodes.specs.Laws.{Grows}
use Rattle.ipg_table.specs.declared.row.AltRow.{AltRow}
use Rattle.ipg_table.specs.declared.row.Instr.{Instr}
use Rattle.ipg_table.specs.Rows.{Rows, Each, HoldsInstr, HoldsAlt, rows_at}
use Rattle.ipg_mach_slot.specs.Now.{AreResults}
use Rattle.ipg_mach_node.specs.Items.{HasItems}
use Rattle.ipg_mach_node.specs.Laws.{BeforeBefore, ItemsStay, NoneHasRun, ResultsStay}
use Rattle.ipg_mach.specs.Piled.{Piled, Turns, below, above}
use Rattle.ipg_mach_term.specs.declared.entry.TermEntry.{TermEntry}
use Rattle.ipg_mach_term.specs.declared.entry.TermEntry.TheVariants.{Outside, Items, Turns as TurnsTo}
use Rattle.ipg_mach_term.specs.Advance.{IsEntry}
use Rattle.ipg_mach.specs.declared.frame.Frame.{Frame}
use Rattle.ipg_mach.specs.declared.frame.HeldAnswer.{HeldAnswer}
use Rattle.ipg_mach.specs.Calls.{Shown, IsAlternative, alternatives, items_in, IsAnswer, IsAtWork, IsHolding, IsHighest, IsReady, IsCall, Wait, size_of}
use Rattle.ipg_mach.proofs.Rows.{each_drop}
use Rattle.ipg_mach.proofs.Stores.{IsCut, mark_grown, before_grown, cut_mark, cut_before}

-- a call stays the same with other instructions
pub same_call : (t : Rows) (src : Source) (frame : Frame) (under : Piled) (f : meaning.Frame) (from : ℕ) (left : Bor (List Instr)) (entry : TermEntry)
    → IsCall t src frame under f from → IsCall t src (record frame { left = left; entry = entry }) under f from
same_call t src frame under f from left entry h = record {
  syms = h.syms;
  tables = h.tables;
  rule = h.rule;
  alt = h.alt;
  begins = h.begins;
  ordered = h.ordered;
  inside = h.inside;
  bytes = h.bytes;
  outer = h.outer;
  outer_inside = h.outer_inside;
}

-- its alternatives are those of the rule and the number in its frame
pub alternatives_at : (t : Rows) (src : Source) (frame : Frame) (under : Piled) (f : meaning.Frame) (from : ℕ) → IsCall t src frame under f from
    → alternatives f ≡ drop frame.alt (moves.alts_of (rule_at f.grammar frame.rule))
alternatives_at t src frame under f from h =
    ap (λ r. drop f.alt (moves.alts_of (rule_at f.grammar r))) h.rule ∙ ap (λ a. drop a (moves.alts_of (rule_at f.grammar frame.rule))) h.alt

-- those after its own are those from the next number on
pub later_alternatives : (c : OpenCall) → IsAlternative c.frame c.terms c.alts → alternatives (record c.frame { alt = c.frame.alt + 1 }) ≡ c.alts
later_alternatives c h = sym (drop-drop 1 c.frame.alt (moves.alts_of (rule_at c.frame.grammar c.frame.rule))) ∙ ap (drop 1) h.stands

other : (c d : OpenCall) (state : State) (left : List ℕ)
    → runs_on (record c { frame = d.frame; from = d.from; terms = d.terms; alts = d.alts }) state left ≡ runs_on d state left
other c d state [] = refl
other c d state (u ∷ left) = refl

-- what runs doesn't hang on what has been left
pub runs_same : (c d : OpenCall) → c.frame ≡ d.frame → c.from ≡ d.from → c.terms ≡ d.terms → c.alts ≡ d.alts → (state : State) (left : List ℕ)
    → runs_on c state left ≡ runs_on d state left
runs_same c d frame from terms alts state left =
    ap (λ x. runs_on (record c { frame = x }) state left) frame
    ∙ ap (λ x. runs_on (record c { frame = d.frame; from = x }) state left) from
    ∙ ap (λ x. runs_on (record c { frame = d.frame; from = d.from; terms = x }) state left) terms
    ∙ ap (λ x. runs_on (record c { frame = d.frame; from = d.from; terms = d.terms; alts = x }) state left) alts
    ∙ other c d state left

module _ (t : Rows) (src : Source) (s : Shown) (frames : List Frame) (lower : List OpenCall) (items : List tree.Kid) (c : OpenCall)
    (work : IsAtWork t src s frames lower items c) where
  pub turns_to : (piles own : Piled) (state : State) (more : List tree.Kid) → Turns s.piles piles s.frame.base own
      → length state.done ≡ length c.terms → state.own ≡ own.own → AreResults src s.store s.frame.from (size_of s.frame) own.done state.done
      → HasItems src s.store s.frame.from (size_of s.frame) own.items more
      → IsAtWork t src (record s { piles = piles }) frames lower more (record c { state = state })
  turns_to piles own state more turns count attrs done have = record {
    answer = work.answer;
    base = turns.base;
    mark = work.mark;
    is_open = record {
      call = subst (λ under. IsCall t src s.frame under c.frame c.from) (sym turns.below) work.is_open.call;
      alternative = work.is_open.alternative;
      left = work.is_open.left;
      count = count;
      attrs = attrs ∙ ap (λ (p : Piled). p.own) (sym turns.above);
      done = subst (λ (p : Piled). AreResults src s.store s.frame.from (size_of s.frame) p.done state.done) (sym turns.above) done;
      have = subst (λ (p : Piled). HasItems src s.store s.frame.from (size_of s.frame) p.items more) (sym turns.above) have;
    };
    wait = subst (λ p. Wait t src (before s.store s.frame.mark) frames p s.frame.from s.frame.to lower) (sym turns.below) work.wait;
  }

  pub grown : ResultsStay → ItemsStay → (store : Stored) → Grows s.store store → IsAtWork t src (record s { store = store }) frames lower items c
  grown results_stay items_stay store grows = record {
    answer = work.answer;
    base = work.base;
    mark = mark_grown s.store store s.frame.mark grows work.mark;
    is_open = record {
      call = work.is_open.call;
      alternative = work.is_open.alternative;
      left = work.is_open.left;
      count = work.is_open.count;
      attrs = work.is_open.attrs;
      done = results_stay src s.store store s.frame.from (size_of s.frame) _ _ grows work.is_open.done;
      have = items_stay src s.store store s.frame.from (size_of s.frame) _ items grows work.is_open.have;
    };
    wait = subst (λ st. Wait t src st frames (below s.piles s.frame.base) s.frame.from s.frame.to lower)
        (sym (before_grown s.store store s.frame.mark grows work.mark)) work.wait;
  }

  -- the term at hand is past, where the call has no items
  pub passed : (left : Bor (List Instr)) → left.now ≡ drop 1 s.frame.left.now → items ≡ []
      → IsAtWork t src (record s { frame = record s.frame { left = left; entry = Outside } }) frames lower [] (record c { left = drop 1 c.left })
  passed left e none = record {
    answer = work.answer;
    base = work.base;
    mark = work.mark;
    is_open = record {
      call = same_call t src s.frame _ c.frame c.from left Outside work.is_open.call;
      alternative = work.is_open.alternative;
      left = subst (λ rows. Each (HoldsInstr t c.terms) rows (drop 1 c.left)) (sym e)
          (each_drop (HoldsInstr t c.terms) s.frame.left.now c.left work.is_open.left);
      count = work.is_open.count;
      attrs = work.is_open.attrs;
      done = work.is_open.done;
      have = subst (HasItems src s.store s.frame.from (size_of s.frame) (above s.piles s.frame.base).items) none work.is_open.have;
    };
    wait = work.wait;
  }

-- the items of an entry are those that it was said of
same_items : (n : ℕ) (entry : TermEntry) (items : List tree.Kid) (e : moves.Entry) → IsEntry n entry items e → items_in e ≡ items
same_items n Outside items e is = ap items_in is.1 ∙ sym is.0
same_items n (Items left item) items e is = ap items_in is.2
same_items n (TurnsTo at to) items e is = ap items_in is.0

-- the term at hand goes on inside
module _ (t : Rows) (src : Source) (s : Shown) (frames : List Frame) (lower : List OpenCall) (items : List tree.Kid) (c : OpenCall)
    (work : IsAtWork t src s frames lower items c) (entry : TermEntry) (e : moves.Entry) where
  pub inside : (answer : Result moves.Advance Stop) → answer ≡ Ok (moves.Inside e) → IsEntry (size_of s.frame) entry items e
      → IsHighest t src (record s { frame = record s.frame { entry = entry } }) frames lower (turned c answer)
  inside answer is entered =
      let same = same_items (size_of s.frame) entry items e entered in
      subst (λ a. IsHighest t src (record s { frame = record s.frame { entry = entry } }) frames lower (turned c a)) (sym is) (record {
        at_work = record {
          answer = work.answer;
          base = work.base;
          mark = work.mark;
          is_open = record {
            call = same_call t src s.frame _ c.frame c.from s.frame.left entry work.is_open.call;
            alternative = work.is_open.alternative;
            left = work.is_open.left;
            count = work.is_open.count;
            attrs = work.is_open.attrs;
            done = work.is_open.done;
            have = subst (HasItems src s.store s.frame.from (size_of s.frame) (above s.piles s.frame.base).items) (sym same) work.is_open.have;
          };
          wait = work.wait;
        };
        entry = subst (λ items. IsEntry (size_of s.frame) entry items e) (sym same) entered;
      })

-- ---- the terms left

module _ (t : Rows) (src : Source) (s : Shown) (frames : List Frame) (lower : List OpenCall) (c : OpenCall) where
  pub closed : c.left ≡ [] → IsHolding t src s frames lower (key_at c.frame c.from) (Ok (node_of c.frame c.terms c.state))
      → IsHighest t src s frames lower (runs_on c c.state c.left)
  closed e h = subst (λ l. IsHighest t src s frames lower (runs_on c c.state l)) (sym e) h

  goes_by : (left : List ℕ) → (u : ℕ) × (rest : List ℕ) × (left ≡ u ∷ rest) → c.left ≡ left → s.frame.entry ≡ Outside
      → IsAtWork t src s frames lower [] c → IsHighest t src s frames lower (runs_on c c.state left)
  goes_by [] one e outside work = absurd (let no = one.2 in cc)
  goes_by (u ∷ left) one e outside work = record {
    at_work = record {
      answer = work.answer;
      base = work.base;
      mark = work.mark;
      is_open = record {
        call = work.is_open.call;
        alternative = work.is_open.alternative;
        left = subst (Each (HoldsInstr t c.terms) s.frame.left.now) e work.is_open.left;
        count = work.is_open.count;
        attrs = work.is_open.attrs;
        done = work.is_open.done;
        have = work.is_open.have;
      };
      wait = work.wait;
    };
    entry = subst (λ entry. IsEntry (size_of s.frame) entry [] moves.Outside) (sym outside) (refl, refl);
  }

  -- with a term left it goes on
  pub goes : (u : ℕ) × (c.left ≡ u ∷ drop 1 c.left) → s.frame.entry ≡ Outside → IsAtWork t src s frames lower [] c
      → IsHighest t src s frames lower (runs_on c c.state c.left)
  goes one outside work = goes_by c.left (one.0, drop 1 c.left, one.1) refl outside work

-- what is made of a term at hand is made of one that is left
pub some_left : (call : Call) (c : OpenCall) (adv : moves.Advance) → (at_hand call c).answer ≡ Ok adv → c.left ≢ []
unfolding stop
some_left call c adv e none =
    let no : Err NoTree ≡ Ok adv = sym (ap (λ l. (first_left call c l).answer) none) ∙ e in cc

-- the term at hand is past with this state
pub as_past : (c : OpenCall) (state : State) (answer : Result moves.Advance Stop) → answer ≡ Ok (Past state)
    → runs_on (record c { state = state }) state (drop 1 c.left) ≡ turned c answer
as_past c state answer e = runs_same (record c { state = state }) c refl refl refl refl state (drop 1 c.left) ∙ ap (turned c) (sym e)

-- ---- answers

pub part_length : (bytes : List ℕ) (from to : ℕ) → from ≤ to → to ≤ length bytes → from + length (part bytes from to) ≡ to
part_length bytes from to valid inside =
    let taken = length-take (to - from) (drop from bytes) in
    let dropped = length-drop from bytes in
    omega arith

pub part_size : (t : Rows) (src : Source) (frame : Frame) (under : Piled) (f : meaning.Frame) (from : ℕ) → IsCall t src frame under f from
    → length f.bytes ≡ size_of frame
part_size t src frame under f from h =
    let whole = part_length src.input frame.from frame.to h.ordered h.inside in
    let valid = h.ordered in
    ap length h.bytes ∙ (let n : length (part src.input frame.from frame.to) ≡ frame.to - frame.from = omega arith in n)

pub ready_of : (t : Rows) (src : Source) (s : Shown) (frames : List Frame) (lower : List OpenCall) (items : List tree.Kid) (c : OpenCall)
    → IsAtWork t src s frames lower items c → IsReady t src s frames lower c.frame c.from
ready_of t src s frames lower items c work =
    record { answer = work.answer; base = work.base; mark = work.mark; call = work.is_open.call; wait = work.wait }

module _ (t : Rows) (src : Source) (s : Shown) (frames : List Frame) (lower : List OpenCall) (f : meaning.Frame) (from : ℕ)
    (ready : IsReady t src s frames lower f from) where
  pub holds_so : (new : Shown) (held : HeldAnswer) (answer : Result Tree Stop) → new ≡ record s { piles = below s.piles s.frame.base; answer = Some held }
      → IsAnswer src s.store s.frame.from (size_of s.frame) held answer → IsHolding t src new frames lower (key_at f from) answer
  holds_so new held answer e is = subst (λ s. IsHolding t src s frames lower (key_at f from) answer) (sym e) (record {
    held = held;
    holds = refl;
    is_key = record {
      rule = ready.call.rule;
      from = ready.call.begins;
      to = ap (λ n. from + length n) ready.call.bytes ∙ ap (λ n. n + length (part src.input s.frame.from s.frame.to)) ready.call.begins
          ∙ part_length src.input s.frame.from s.frame.to ready.call.ordered ready.call.inside;
    };
    is = is;
    mark = ready.mark;
    wait = ready.wait;
  })

-- ---- alternatives

module _ (t : Rows) (src : Source) (s : Shown) (frames : List Frame) (lower : List OpenCall) (f : meaning.Frame) (from : ℕ)
    (ready : IsReady t src s frames lower f from) where
  abbrev opens_on : CoreAlt → List CoreAlt → OpenCall
  opens_on alt rest = record {
    frame = f;
    from = from;
    terms = alt.terms;
    alts = rest;
    state = meaning.start (length alt.terms);
    left = alt.order;
    entry = moves.Outside;
  }

  module _ (row : AltRow) (alt : CoreAlt) (rest : List CoreAlt) (holds : HoldsAlt t row alt) where
    pub begun : NoneHasRun → (left : Bor (List Instr)) (piles : Piled) → alternatives f ≡ alt ∷ rest → left.now ≡ rows_at t.instrs row.instrs
        → Turns s.piles piles s.frame.base (record { done = replicate row.terms None; own = []; items = [] })
        → IsAtWork t src (record s { piles = piles; frame = record s.frame { left = left; entry = Outside } }) frames lower [] (opens_on alt rest)
    begun none_has_run left piles stands is_left turns = record {
      answer = ready.answer;
      base = turns.base;
      mark = ready.mark;
      is_open = record {
        call = same_call t src s.frame _ f from left Outside
            (subst (λ under. IsCall t src s.frame under f from) (sym turns.below) ready.call);
        alternative = record { own = alt; same = refl; stands = stands };
        left = subst (λ rows. Each (HoldsInstr t alt.terms) rows alt.order) (sym is_left) holds.instrs.each;
        count = length-replicate (length alt.terms) None;
        attrs = ap (λ (p : Piled). p.own) (sym turns.above);
        done = subst (λ (p : Piled). AreResults src s.store s.frame.from (size_of s.frame) p.done (replicate (length alt.terms) None)) (sym turns.above)
            (subst (λ n. AreResults src s.store s.frame.from (size_of s.frame) (replicate n None) (replicate (length alt.terms) None)) (sym holds.terms)
            (none_has_run src s.store s.frame.from (size_of s.frame) (length alt.terms)));
        have = subst (λ (p : Piled). HasItems src s.store s.frame.from (size_of s.frame) p.items []) (sym turns.above)
            (record { stand = tt; within = tt; single = tt });
      };
      wait = subst (λ p. Wait t src (before s.store s.frame.mark) frames p s.frame.from s.frame.to lower) (sym turns.below) ready.wait;
    }

    pub begins_so : (those : List CoreAlt) → those ≡ alt ∷ rest → runs_on (opens_on alt rest) (meaning.start (length alt.terms)) alt.order ≡ begins f from those
    begins_so those e =
        runs_same (opens_on alt rest) (record (opens_on alt rest) { left = [] }) refl refl refl refl (meaning.start (length alt.terms)) alt.order
        ∙ ap (begins f from) (sym e)

-- the next alternative begins on what was stored before a later mark
module _ (t : Rows) (src : Source) (s : Shown) (frames : List Frame) (lower : List OpenCall) (items : List tree.Kid) (c : OpenCall)
    (work : IsAtWork t src s frames lower items c) (cut : Mark) (store : Stored) (alt : ℕ) where
  pub next_ready : BeforeBefore → IsCut s.frame.mark s.floor cut → store ≡ before s.store cut → alt ≡ s.frame.alt + 1
      → IsReady t src (record s { store = store; frame = record s.frame { alt = alt } }) frames lower
      (record c.frame { alt = c.frame.alt + 1 }) c.from
  next_ready before_before is e next = record {
    answer = work.answer;
    base = work.base;
    mark = subst (λ st. IsMark st s.frame.mark) (sym e) (cut_mark s.store s.frame.mark s.floor cut is work.mark);
    call = record {
      syms = work.is_open.call.syms;
      tables = work.is_open.call.tables;
      rule = work.is_open.call.rule;
      alt = ap (λ n. n + 1) work.is_open.call.alt ∙ sym next;
      begins = work.is_open.call.begins;
      ordered = work.is_open.call.ordered;
      inside = work.is_open.call.inside;
      bytes = work.is_open.call.bytes;
      outer = work.is_open.call.outer;
      outer_inside = work.is_open.call.outer_inside;
    };
    wait = subst (λ st. Wait t src st frames (below s.piles s.frame.base) s.frame.from s.frame.to lower)
        (sym (ap (λ st. before st s.frame.mark) e ∙ cut_before before_before s.store s.frame.mark s.floor cut is)) work.wait;
  }
