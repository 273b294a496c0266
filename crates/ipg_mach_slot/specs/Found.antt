-- What a slot comes to, as rows say it: a child, a call that is to be made, or none.
use Rattle.std.specs.Prelude.{◌≡◌, ℕ, ◌+◌, ◌≤◌, List, [], ◌∷◌, length, Option, ℤ, FitsSigned, false}
use Rattle.std.specs.Int.{w64}
use Rattle.ipg_num.specs.declared.op.Answer.{Answer}
use Rattle.ipg_num.specs.declared.op.Answer.TheVariants.{Val, Fail, Range}
use Rattle.ipg_core.specs.Grammar.{rule_at, holder_of}
use Rattle.ipg_core.specs.Part.{part, interval}
use Rattle.ipg_core.specs.Tree as tree
use Rattle.ipg_core.specs.Within.{KidWithin}
use Rattle.ipg_core.specs.declared.grammar.CoreSlot.{CoreSlot}
use Rattle.ipg_core.specs.Environment.{Values}
use Rattle.ipg_core.specs.Run.{NoTree, OutOfRange, Asked, Run, finish, stop, some_of, ◌>>=◌}
use Rattle.ipg_core.specs.Meaning.{Frame, Place, State, outer_for, value_in, symbol_on}
use Rattle.ipg_mach_moves.specs.Moves.{silent}
use Rattle.ipg_mach_nodes.specs.declared.kid.Kid.{Kid}
use Rattle.ipg_mach_nodes.specs.Stored.{Stored, Source, StandsKid}
use Rattle.ipg_mach_results.specs.Flat.{has_items}
use Rattle.ipg_table.specs.Rows.{Rows}
use Rattle.ipg_mach_slot.specs.declared.found.Found.{Found}
use Rattle.ipg_mach_slot.specs.declared.found.Found.TheVariants as found

-- the bytes stand in the input from a place on
abbrev pub LiesAt : List ℕ → ℕ → List ℕ → Type 0
LiesAt input at bytes = (l r : ℕ) → l ≤ r → r ≤ length bytes → part input (at + l) (at + r) ≡ part bytes l r

-- the symbols are the tables', and the part of an alternative stands in the input
pub record Shares (src : Source) (at : ℕ) (f : Frame) (t : Rows) (bytes : List ℕ) : Type 0 where
  pub syms : src.syms ≡ t.syms
  pub part : f.bytes ≡ bytes
  pub lies : LiesAt src.input at bytes

-- one call is made, of this rule on this interval of the part, with the holder's attributes that are due
pub record Calls (f : Frame) (own : Values) (rule from to : ℕ) (asked : List Asked) : Type 0 where
  pub ask : Asked
  pub is_asked : asked ≡ ask ∷ []
  pub is_rule : ask.callee ≡ rule
  pub is_from : ask.from ≡ from
  pub is_to : ask.to ≡ to
  pub is_outer : ask.outer ≡ outer_for f own (holder_of (rule_at f.grammar rule))
  pub valid : from ≤ to
  pub inside : to ≤ length f.bytes

-- the run makes no call, and its child, which lies in a part of n bytes and is no array and no repetition, stands in a row
pub record Gives (src : Source) (st : Stored) (at n : ℕ) (k : Kid) (run : Run tree.Kid) : Type 0 where
  pub one : tree.Kid
  pub is : run ≡ finish one
  pub stands : StandsKid src st at k one
  pub within : KidWithin n one
  pub single : has_items one ≡ false

-- what was found is what the run comes to
abbrev pub IsFound : Source → Stored → ℕ → Frame → Values → Found → Run tree.Kid → Type 0
IsFound src st at f own (found.Kid k) run = Gives src st at (length f.bytes) k run
IsFound src st at f own (found.Call rule from to) run = Calls f own rule from to run.asked
IsFound src st at f own found.NoTree run = run ≡ stop NoTree
IsFound src st at f own found.Range run = run ≡ stop OutOfRange

-- a value is a number of 64 bits
abbrev pub IsSized : Answer → Type 0
IsSized (Val z) = FitsSigned w64 z
IsSized Fail = Unit {0}
IsSized Range = Unit {0}

-- ---- a slot, from its left end on

-- with both ends evaluated
abbrev pub slot_between : Frame → Place → State → CoreSlot → ℤ → ℤ → Run tree.Kid
slot_between f place state slot from to = do
  ends ← some_of (interval (length f.bytes) from to)
  symbol_on silent f place state.own ends.0 ends.1 slot.sym

-- with its left end evaluated
abbrev pub slot_from : Frame → Place → State → Option ℤ → CoreSlot → ℤ → Run tree.Kid
slot_from f place state item slot from = do
  to ← value_in f state item slot.to
  slot_between f place state slot from to
