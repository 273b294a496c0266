-- The machine as an open evaluation.
use Rattle.std.specs.Prelude.{◌≡◌, ℕ, List, Option, Some, None}
use Rattle.ipg_memo.specs.Keyed.{Entries}
use Rattle.ipg_memo.specs.declared.memo.Key.{Key}
use Rattle.ipg_memo.specs.declared.memo.Entry.{Entry}
use Rattle.ipg_mach_nodes.specs.declared.kid.Kid.{Kid}
use Rattle.ipg_mach_nodes.specs.declared.kid.Kid.TheVariants as kid
use Rattle.ipg_memo.specs.declared.memo.Entry.TheVariants as entry
use Rattle.ipg_mach_nodes.specs.declared.store.Mark.{Mark}
use Rattle.ipg_mach_moves.specs.Moves.{OpenCall, Evaluation, Known, silent, at_hand}
use Rattle.ipg_mach_nodes.specs.Stored.{Stored, Source, IsMark, IsEnd, before}
use Rattle.ipg_table.specs.Rows.{Rows}
use Rattle.ipg_mach_slot.specs.Found.{Calls}
use Rattle.ipg_mach_term.specs.Advance.{EndsBy}
use Rattle.ipg_mach.specs.declared.frame.Frame.{Frame}
use Rattle.ipg_tree_walk.specs.declared.parsed.Counts.{Counts}
use Rattle.ipg_mach.specs.declared.work.Work as work
use Rattle.ipg_mach.specs.Calls.{Shown, shown, IsHighest}
use Rattle.ipg_mach.specs.Known.{IsKnown}
use Rattle.ipg_mach.specs.Counted.{IsTally}

-- the machine, as clauses see it
pub record Stage : Type 0 where
  pub tables : Rows
  pub input : List ℕ
  pub top : Shown
  pub frames : List Frame
  pub memo : Option Entries
  pub counts : Counts

abbrev pub staged : {A : Type 0} → work.Work A → Stage
staged w = record {
  tables = w.reader.tables.now;
  input = w.reader.input.now;
  top = shown w.top;
  frames = w.frames.items;
  memo = w.memo;
  counts = w.counts;
}

-- the machine stands for the evaluation
pub record IsAt (src : Source) (s : Stage) (e : Evaluation) : Type 0 where
  pub input : src.input ≡ s.input
  pub highest : IsHighest s.tables src s.top s.frames e.lower e.highest
  pub floor : IsMark s.top.store s.top.floor
  pub known : IsKnown src (before s.top.store s.top.floor) s.memo e.known
  pub tally : IsTally s.counts e.tally

-- the call asks for a call of this rule on this interval of its part
pub record IsAsking (frame : Frame) (c : OpenCall) (rule from to : ℕ) : Type 0 where
  pub call : Calls c.frame c.state.own rule from to (at_hand silent c).asked
  -- in a repetition the interval lies in that of the repetition
  pub bounded : EndsBy frame.entry to

-- what is known stands in what is kept
pub record Remembers (src : Source) (st : Stored) (floor : Mark) (memo : Option Entries) (known : Option Known) : Type 0 where
  pub mark : IsMark st floor
  pub holds : IsKnown src (before st floor) memo known

-- a node that is remembered is kept, and all that was
abbrev pub IsRaised : Stored → Mark → Entry → Mark → Type 0
IsRaised st floor entry.NoTree raised = raised ≡ floor
IsRaised st floor (entry.Node id) raised = IsEnd st raised

-- the call of a frame, as the memo keys it
abbrev pub key_in : Frame → Key
key_in frame = record { rule = frame.rule; from = frame.from; to = frame.to }

-- what is known of a call, as a child on an interval
abbrev pub kid_of : Entry → ℕ → ℕ → Option Kid
kid_of (entry.Node id) from to = Some (kid.Node id from to)
kid_of entry.NoTree from to = None

-- what trees of a parse stand on
abbrev pub source : Rows → List ℕ → Source
source t input = record { syms = t.syms; input = input }
