-- The parts that the move of a term at hand is put together from.
use Rattle.std.specs.Prelude.{◌≡◌, ℕ, [], None, ℤ, ◌-ℤ◌, length, if◌then◌else◌}
use Rattle.ipg_core.specs.declared.grammar.Sym.{Sym}
use Rattle.ipg_core.specs.declared.grammar.CoreExpr.{CoreExpr}
use Rattle.ipg_core.specs.declared.grammar.CoreTerm.{CoreTerm}
use Rattle.ipg_core.specs.Part.{interval}
use Rattle.ipg_core.specs.Tree as tree
use Rattle.ipg_core.specs.Touch.{ends_of}
use Rattle.ipg_core.specs.Eval.{is_zero}
use Rattle.ipg_core.specs.Run.{Run, NoTree, finish, stop, some_of, ◌>>=◌}
use Rattle.ipg_core.specs.Meaning.{Frame, State, value_in, times}
use Rattle.ipg_mach_moves.specs.Moves as moves
use Rattle.ipg_mach_slot.specs.declared.found.Found.{Found}
use Rattle.ipg_mach_slot.specs.declared.found.Found.TheVariants as found
use Rattle.ipg_mach_term.specs.declared.entry.TermEntry.{TermEntry}
use Rattle.ipg_mach_term.specs.Advance.{EndsBy}

-- a term makes this of the run that parsed for it
abbrev pub made_of : State → ℕ → moves.Entry → CoreTerm → Run tree.Kid → Run moves.Advance
made_of state u e term kid = record { answer = moves.taken state u e term kid.answer; asked = kid.asked }

-- what was found for a term entered there ends by the end of its interval
abbrev pub FoundEndsBy : TermEntry → Found → Run tree.Kid → Type 0
FoundEndsBy e (found.Kid k) run = (one : tree.Kid) → run ≡ finish one → EndsBy e (ends_of one).end
FoundEndsBy e (found.Call rule from to) run = EndsBy e to
FoundEndsBy e found.NoTree run = Unit {0}
FoundEndsBy e found.Range run = Unit {0}

-- a test with its condition evaluated
abbrev pub tested : State → ℤ → Run moves.Advance
tested state z = if is_zero z then stop NoTree else finish (moves.Past state)

-- an array is entered, with both bounds evaluated
abbrev pub array_between : State → ℕ → Sym → ℤ → ℤ → Run moves.Advance
array_between state u sym first last = finish (moves.array_on state u sym (times (last -ℤ first)) first [])

-- with its first bound evaluated
abbrev pub array_from : Frame → State → ℕ → Sym → ℤ → CoreExpr → Run moves.Advance
array_from f state u sym first last = do
  b ← value_in f state None last
  array_between state u sym first b

-- a repetition is entered, with both ends evaluated
abbrev pub many_between : Frame → ℤ → ℤ → Run moves.Advance
many_between f from to = do
  ends ← some_of (interval (length f.bytes) from to)
  finish (moves.Inside (moves.Turns ends.0 ends.1 []))

-- with its left end evaluated
abbrev pub many_from : Frame → State → ℤ → CoreExpr → Run moves.Advance
many_from f state from to = do
  r ← value_in f state None to
  many_between f from r
