-- What the code's answers stand for.
use Rattle.std.specs.Prelude.{◌≡◌, List, [], ◌∷◌, ◌++◌, Option, Some, None, Result, IfOk}
use Rattle.ipg_read_scan.specs.declared.row.Row.{Row as Coded}
use Rattle.ipg_read_scan.specs.declared.due.Due.{Due}
use Rattle.ipg_read_scan.specs.declared.due.Rows.{Rows}
use Rattle.ipg_read_scan.specs.declared.due.Rows.TheVariants as Some_rows
use Rattle.ipg_read_scan.specs.declared.due.Next.{Next}
use Rattle.ipg_read_scan.specs.declared.due.Next.TheVariants as N
use Rattle.ipg_read_scan.specs.declared.due.Symbols.{Symbols}
use Rattle.ipg_read_scan.specs.declared.due.Symbols.TheVariants as S
use Rattle.ipg_read_scan.specs.declared.due.Begin.{Begin}
use Rattle.ipg_read_scan.specs.declared.progress.Progress.{Progress}
use Rattle.ipg_read_scan.specs.declared.progress.Answer.{Answer as Answered}
use Rattle.ipg_read_scan.specs.declared.progress.Answer.TheVariants.{Stuck, Passed, Taken}
use Rattle.ipg_read_scan.specs.Rowed.{Row, row_of, rows_of}
use Rattle.ipg_read_scan.specs.Asked.{Answer, stuck, passed, taken, Opening}

abbrev pub rows_in : Rows → List Row
rows_in Some_rows.Zero = []
rows_in (Some_rows.One r) = row_of r ∷ []
rows_in (Some_rows.Two r s) = row_of r ∷ row_of s ∷ []

abbrev pub row_in : Option Coded → List Row
row_in None = []
row_in (Some r) = row_of r ∷ []

abbrev pub next_of : Next → List Due
next_of N.Zero = []
next_of (N.One a) = a ∷ []
next_of (N.Two a b) = a ∷ b ∷ []
next_of (N.Three a b c) = a ∷ b ∷ c ∷ []
next_of (N.Four a b c d) = a ∷ b ∷ c ∷ d ∷ []

abbrev pub symbols_of : Symbols → List Due
symbols_of (S.One a) = a ∷ []
symbols_of (S.Two a b) = a ∷ b ∷ []

abbrev pub opening_of : Begin → Opening
opening_of o = record { rows = row_in o.row; due = symbols_of o.due }

-- no grammar goes on; or the entry has ended, or has taken the token, with the rows so far and what is due
pub data Turn : Type 0 where
  lost : Turn
  ended : List Row → List Due → Turn
  took : List Row → List Due → Turn

abbrev pub turn : Answer → List Row → List Due → Turn
turn stuck rows due = lost
turn (passed made) rows due = ended (rows ++ made) due
turn (taken made next) rows due = took (rows ++ made) (next ++ due)

abbrev pub turn_of : Answered → List Row → List Due → Turn
turn_of Stuck rows due = lost
turn_of Passed rows due = ended rows due
turn_of Taken rows due = took rows due

-- the code does what the answer says
abbrev pub Does : {E : Type 0} → Answer → Progress → Progress → Result Answered E → Type 0
Does answer before after result =
    IfOk result (λ told. turn_of told (rows_of after.rows.items) after.due ≡ turn answer (rows_of before.rows.items) before.due)
