-- The open calls of an evaluation, as frames and piles hold them.
use denote.Bor.{Bor}
use Rattle.std.specs.Prelude.{◌≡◌, ℕ, ◌+◌, ◌-◌, ◌≤◌, List, [], ◌∷◌, ◌++◌, drop, length, Result, Ok, Err, Option, Some, None, ℤ}
use Rattle.ipg_core.specs.declared.grammar.CoreAlt.{CoreAlt}
use Rattle.ipg_core.specs.declared.grammar.CoreTerm.{CoreTerm}
use Rattle.ipg_core.specs.Grammar.{rule_at}
use Rattle.ipg_core.specs.Part.{part}
use Rattle.ipg_core.specs.Tree as tree
use Rattle.ipg_core.specs.Tree.{Tree}
use Rattle.ipg_core.specs.Within.{TreeWithin}
use Rattle.ipg_core.specs.Run.{Stop, NoTree, OutOfRange, Asked}
use Rattle.ipg_core.specs.Meaning as meaning
use Rattle.ipg_mach_moves.specs.Moves as moves
use Rattle.ipg_mach_moves.specs.Moves.{OpenCall, Highest, Works, Holds, Key, silent, at_hand}
use Rattle.ipg_region.specs.declared.region.RunId.{RunId}
use Rattle.ipg_mach_nodes.specs.declared.kid.Kid.{Kid}
use Rattle.ipg_mach_nodes.specs.declared.kid.Kid.TheVariants as kid
use Rattle.ipg_table.specs.declared.row.Action.{Action}
use Rattle.ipg_table.specs.declared.row.Action.TheVariants as action
use Rattle.ipg_mach_slot.specs.declared.now.Running.{Running}
use Rattle.ipg_mach_term.specs.declared.entry.TermEntry.{TermEntry}
use Rattle.ipg_mach_term.specs.declared.entry.TermEntry.TheVariants as entry
use Rattle.ipg_mach_nodes.specs.declared.store.Mark.{Mark}
use Rattle.ipg_mach_nodes.specs.Stored.{Stored, Source, StandsTree, IsMark, before}
use Rattle.ipg_table.specs.declared.row.AltRow.{AltRow}
use Rattle.ipg_table.specs.declared.row.Instr.{Instr}
use Rattle.ipg_table.specs.Rows.{Rows, Each, HoldsInstr, HoldsAlt, StandFor}
use Rattle.ipg_mach_slot.specs.Now.{AreResults}
use Rattle.ipg_mach_term.specs.Advance.{IsEntry, EndsBy}
use Rattle.ipg_mach_node.specs.Items.{HasItems}
use Rattle.ipg_mach.specs.Piled.{Piled, between, IsBase, below, above}
use Rattle.ipg_mach.specs.declared.frame.Frame.{Frame}
use Rattle.ipg_mach.specs.declared.frame.NewCall.{NewCall}
use Rattle.ipg_mach.specs.declared.frame.HeldAnswer.{HeldAnswer}
use Rattle.ipg_mach.specs.declared.frame.HeldAnswer.TheVariants as held
use Rattle.ipg_mach.specs.declared.top.Top as top

-- the length of a frame's part
abbrev pub size_of : Frame → ℕ
size_of frame = frame.to - frame.from

-- a rule at work on a part of the input, its holder's attributes among those of the calls below
pub record IsCall (t : Rows) (src : Source) (frame : Frame) (under : Piled) (f : meaning.Frame) (from : ℕ) : Type 0 where
  pub syms : src.syms ≡ t.syms
  pub tables : StandFor t f.grammar
  pub rule : f.rule ≡ frame.rule
  pub alt : f.alt ≡ frame.alt
  pub begins : from ≡ frame.from
  pub ordered : frame.from ≤ frame.to
  pub inside : frame.to ≤ length src.input
  pub bytes : f.bytes ≡ part src.input frame.from frame.to
  pub outer : f.outer ≡ between under.own frame.outer.from frame.outer.to
  pub outer_inside : frame.outer.to ≤ length under.own

-- the items of the term at hand so far
abbrev pub items_in : moves.Entry → List tree.Kid
items_in moves.Outside = []
items_in (moves.Items n i items) = items
items_in (moves.Turns p r items) = items

-- the alternatives of a call's rule from its own on
abbrev pub alternatives : meaning.Frame → List CoreAlt
alternatives f = drop f.alt (moves.alts_of (rule_at f.grammar f.rule))

-- the row is that of the first of them; there is none where there is no row
abbrev pub IsNext : Rows → Option (Bor AltRow) → List CoreAlt → Type 0
IsNext t None those = those ≡ []
IsNext t (Some row) those = (alt : CoreAlt) × HoldsAlt t row.now alt × (those ≡ alt ∷ drop 1 those)

-- the call's terms are those of its alternative, and these alternatives come after it
pub record IsAlternative (f : meaning.Frame) (terms : List CoreTerm) (after : List CoreAlt) : Type 0 where
  pub own : CoreAlt
  pub same : terms ≡ own.terms
  pub stands : alternatives f ≡ own ∷ after

-- an open call, with what it has come to, its items so far among that, and what the calls below have
pub record IsOpen (t : Rows) (src : Source) (st : Stored) (frame : Frame) (under own : Piled) (items : List tree.Kid) (c : OpenCall) : Type 0 where
  pub call : IsCall t src frame under c.frame c.from
  pub alternative : IsAlternative c.frame c.terms c.alts
  pub left : Each (HoldsInstr t c.terms) frame.left.now c.left
  pub count : length c.state.done ≡ length c.terms
  pub attrs : c.state.own ≡ own.own
  pub done : AreResults src st frame.from (size_of frame) own.done c.state.done
  pub have : HasItems src st frame.from (size_of frame) own.items items

-- ---- calls that wait for the one above them

-- the call asks for a call on this interval of the input
pub record Awaits (frame : Frame) (c : OpenCall) (from to : ℕ) : Type 0 where
  pub ask : Asked
  pub asks : (at_hand silent c).asked ≡ ask ∷ []
  pub begins : frame.from + ask.from ≡ from
  pub ends : frame.from + ask.to ≡ to
  pub valid : ask.from ≤ ask.to
  pub inside : to ≤ frame.to
  -- in a repetition its interval lies in that of the repetition
  pub bounded : EndsBy frame.entry ask.to

-- the frame, and what was stored and piled up by then, stand for a call that waits for one on this interval of the input
pub record IsWaiting (t : Rows) (src : Source) (st : Stored) (frame : Frame) (p : Piled) (from to : ℕ) (c : OpenCall) : Type 0 where
  pub base : IsBase p frame.base
  pub mark : IsMark st frame.mark
  pub is_open : IsOpen t src st frame (below p frame.base) (above p frame.base) (items_in c.entry) c
  pub entry : IsEntry (size_of frame) frame.entry (items_in c.entry) c.entry
  pub awaits : Awaits frame c from to

-- the frames are those of the calls that wait for a call on this interval, the nearest on top; what a call holds stands in
-- what was stored before the mark of the call above it; the lowest call is on the whole input
abbrev pub Wait : Rows → Source → Stored → List Frame → Piled → ℕ → ℕ → List OpenCall → Type 0
Wait t src st frames p from to [] = (frames ≡ []) × (from ≡ 0) × (to ≡ length src.input)
Wait t src st frames p from to (c ∷ lower) =
    (frame : Frame) × (rest : List Frame) × (frames ≡ rest ++ frame ∷ []) × IsWaiting t src st frame p from to c
    × Wait t src (before st frame.mark) rest (below p frame.base) frame.from frame.to lower

-- ---- the highest call

-- the key has the rule and the interval of the frame
pub record IsKey (frame : Frame) (key : Key) : Type 0 where
  pub rule : key.rule ≡ frame.rule
  pub from : key.from ≡ frame.from
  pub to : key.to ≡ frame.to

-- what is held is the answer of a call on a part of n bytes that begins at `at` in the input
abbrev pub IsAnswer : Source → Stored → ℕ → ℕ → HeldAnswer → Result Tree Stop → Type 0
IsAnswer src st at n (held.Node id) answer = (one : Tree) × (answer ≡ Ok one) × StandsTree src st at id one × TreeWithin n one
IsAnswer src st at n held.NoTree answer = answer ≡ Err NoTree
IsAnswer src st at n held.Range answer = answer ≡ Err OutOfRange

-- the highest call with its frame, with what all open calls have come to and what is stored
pub record Shown : Type 0 where
  pub store : Stored
  pub piles : Piled
  pub frame : Frame
  pub answer : Option HeldAnswer
  pub floor : Mark

abbrev pub shown : {A : Type 0} → top.Top A → Shown
shown t = record { store = t.store; piles = t.piles; frame = t.frame; answer = t.answer; floor = t.floor }

-- it works, with these items so far
pub record IsAtWork (t : Rows) (src : Source) (s : Shown) (frames : List Frame) (lower : List OpenCall) (items : List tree.Kid) (c : OpenCall)
    : Type 0 where
  pub answer : s.answer ≡ None
  pub base : IsBase s.piles s.frame.base
  pub mark : IsMark s.store s.frame.mark
  pub is_open : IsOpen t src s.store s.frame (below s.piles s.frame.base) (above s.piles s.frame.base) items c
  pub wait : Wait t src (before s.store s.frame.mark) frames (below s.piles s.frame.base) s.frame.from s.frame.to lower

-- it works, and its items are those of the term at hand
pub record IsWorking (t : Rows) (src : Source) (s : Shown) (frames : List Frame) (lower : List OpenCall) (c : OpenCall) : Type 0 where
  pub at_work : IsAtWork t src s frames lower (items_in c.entry) c
  pub entry : IsEntry (size_of s.frame) s.frame.entry (items_in c.entry) c.entry

-- it holds its answer
pub record IsHolding (t : Rows) (src : Source) (s : Shown) (frames : List Frame) (lower : List OpenCall) (key : Key) (answer : Result Tree Stop)
    : Type 0 where
  pub held : HeldAnswer
  pub holds : s.answer ≡ Some held
  pub is_key : IsKey s.frame key
  pub is : IsAnswer src s.store s.frame.from (size_of s.frame) held answer
  pub mark : IsMark s.store s.frame.mark
  pub wait : Wait t src (before s.store s.frame.mark) frames s.piles s.frame.from s.frame.to lower

-- it works, or holds its answer, as the evaluation's highest call does
abbrev pub IsHighest : Rows → Source → Shown → List Frame → List OpenCall → Highest → Type 0
IsHighest t src s frames lower (Works c) = IsWorking t src s frames lower c
IsHighest t src s frames lower (Holds key answer) = IsHolding t src s frames lower key answer

-- the call begins its next alternative
pub record IsReady (t : Rows) (src : Source) (s : Shown) (frames : List Frame) (lower : List OpenCall) (f : meaning.Frame) (from : ℕ)
    : Type 0 where
  pub answer : s.answer ≡ None
  pub base : IsBase s.piles s.frame.base
  pub mark : IsMark s.store s.frame.mark
  pub call : IsCall t src s.frame (below s.piles s.frame.base) f from
  pub wait : Wait t src (before s.store s.frame.mark) frames (below s.piles s.frame.base) s.frame.from s.frame.to lower

-- ---- what stays

-- what the memo stands on stays
pub record Keeps (old new : Shown) : Type 0 where
  pub floor : new.floor ≡ old.floor
  pub mark : IsMark new.store new.floor
  pub before : before new.store new.floor ≡ before old.store old.floor

-- the number of the term at hand
abbrev pub term_at_hand : List ℕ → ℕ
term_at_hand [] = 0
term_at_hand (u ∷ left) = u

-- ---- a call that is to be made

-- the call is that of this rule on this part, its first alternative to begin
pub record IsNew (t : Rows) (src : Source) (s : Shown) (frames : List Frame) (lower : List OpenCall) (new : NewCall) (f : meaning.Frame) (from : ℕ)
    : Type 0 where
  pub answer : s.answer ≡ None
  pub syms : src.syms ≡ t.syms
  pub tables : StandFor t f.grammar
  pub rule : f.rule ≡ new.rule
  pub first : f.alt ≡ 0
  pub begins : from ≡ new.from
  pub ordered : new.from ≤ new.to
  pub inside : new.to ≤ length src.input
  pub bytes : f.bytes ≡ part src.input new.from new.to
  pub outer : f.outer ≡ between s.piles.own new.outer.from new.outer.to
  pub outer_inside : new.outer.to ≤ length s.piles.own
  pub wait : Wait t src s.store frames s.piles new.from new.to lower

-- ---- what is read of the highest call

-- an array runs, where the action is one
abbrev pub running_at : ℕ → ℤ → Bor (List Kid) → Action → Option Running
running_at term item items (action.Repeat first last row) = Some (record { term = term; sym = row.sym; items = items; item = item })
running_at term item items (action.Slot row) = None
running_at term item items (action.Set attr value) = None
running_at term item items (action.Test cond) = None
running_at term item items (action.Many row) = None
running_at term item items (action.Pick cases other) = None

-- the array that runs, where the term at hand is one
abbrev pub running_in : Instr → TermEntry → Bor (List Kid) → Option Running
running_in instr entry.Outside items = None
running_in instr (entry.Turns at to) items = None
running_in instr (entry.Items left item) items = running_at instr.term item items instr.action

-- the answer of the call that the term at hand made, as a child
abbrev pub IsSub : Source → Stored → ℕ → Asked → Option Kid → Result Tree Stop → Type 0
IsSub src st at ask None answer = answer ≡ Err NoTree
IsSub src st at ask (Some row) answer =
    (id : RunId) × (row ≡ kid.Node id ask.from ask.to) × (one : Tree) × (answer ≡ Ok one) × StandsTree src st (at + ask.from) id one
    × TreeWithin (ask.to - ask.from) one
