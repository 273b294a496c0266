-- A reader of a path, byte after byte: where it stands, and where each byte takes it.
use Rattle.std.specs.Prelude.{ℕ, ◌+◌, ◌-◌, ◌*◌, ◌^◌, not, ◌&&◌, nat_le, ◌==◌, if◌then◌else◌, List, [], ◌∷◌, ◌++◌, Option, None, Some}
use Rattle.ipg_reader.specs.Digits.{is_digit, digit_value}
use Rattle.ipg_query_path.specs.declared.path.Query.{Query}
use Rattle.ipg_query_path.specs.declared.path.Step.{Step}
use Rattle.ipg_query_path.specs.declared.path.Step.TheVariants.{Named, Nth, Children, All}
use Rattle.ipg_query_path.specs.declared.pos.Pos.{Pos}
use Rattle.ipg_query_path.specs.declared.pos.Pos.TheVariants as pos
use Rattle.ipg_query_path.specs.declared.pos.PathTurn.{PathTurn}
use Rattle.ipg_query_path.specs.declared.pos.PathTurn.TheVariants.{Stuck, To, Add, End}
use Rattle.ipg_query_path.specs.Paths.{is_letter, is_naming}

-- ---- one byte

abbrev pub step_turn : ℕ → PathTurn
step_turn b = if is_letter b then Add pos.Name else (if b == 42 then To pos.Star else Stuck)

abbrev pub end_turn : ℕ → PathTurn
end_turn b = if b == 47 then End pos.Step else (if b == 46 then End pos.Dot else Stuck)

abbrev pub name_turn : ℕ → PathTurn
name_turn b = if is_naming b then Add pos.Name else (if b == 40 then To pos.Open else end_turn b)

abbrev pub open_turn : ℕ → PathTurn
open_turn b = if is_digit b then To (pos.Number (digit_value b)) else Stuck

-- a number with one digit more, where it stays within its limit; 0 has none
abbrev pub grown : ℕ → ℕ → PathTurn
grown k value = if not (k == 0) && nat_le value (2 ^ 32 - 1) then To (pos.Number value) else Stuck

abbrev pub number_turn : ℕ → ℕ → PathTurn
number_turn k b = if is_digit b then grown k (k * 10 + digit_value b) else (if b == 41 then To (pos.Closed k) else Stuck)

abbrev pub star_turn : ℕ → PathTurn
star_turn b = if b == 42 then To pos.Stars else end_turn b

abbrev pub dot_turn : ℕ → PathTurn
dot_turn b = if is_letter b then Add pos.Field else Stuck

abbrev pub field_turn : ℕ → PathTurn
field_turn b = if is_naming b then Add pos.Field else Stuck

abbrev pub turn_at : Pos → ℕ → PathTurn
turn_at pos.Step b = step_turn b
turn_at pos.Name b = name_turn b
turn_at pos.Open b = open_turn b
turn_at (pos.Number k) b = number_turn k b
turn_at (pos.Closed k) b = end_turn b
turn_at pos.Star b = star_turn b
turn_at pos.Stars b = end_turn b
turn_at pos.Dot b = dot_turn b
turn_at pos.Field b = field_turn b

-- ---- the path so far

-- the steps read, the name at hand, and the place
pub record State : Type 0 where
  pub steps : List Step
  pub name : List ℕ
  pub at : Pos

abbrev pub start : State
start = record { steps = []; name = []; at = pos.Step }

-- the step that has just been read
abbrev pub step_at : List ℕ → Pos → Step
step_at name pos.Step = All
step_at name pos.Name = Named name
step_at name pos.Open = All
step_at name (pos.Number k) = All
step_at name (pos.Closed k) = Nth name k
step_at name pos.Star = Children
step_at name pos.Stars = All
step_at name pos.Dot = All
step_at name pos.Field = All

abbrev pub at_hand : State → Step
at_hand st = step_at st.name st.at

abbrev pub taken : PathTurn → State → ℕ → Option State
taken Stuck st b = None
taken (To at) st b = Some (record { steps = st.steps; name = st.name; at = at })
taken (Add at) st b = Some (record { steps = st.steps; name = st.name ++ b ∷ []; at = at })
taken (End at) st b = Some (record { steps = st.steps ++ at_hand st ∷ []; name = []; at = at })

abbrev pub step : State → ℕ → Option State
step st b = taken (turn_at st.at b) st b

-- with the step at hand
abbrev pub with_last : State → Query
with_last st = record { steps = st.steps ++ at_hand st ∷ []; field = None }

abbrev pub ended_at : Pos → State → Option Query
ended_at pos.Step st = None
ended_at pos.Name st = Some (with_last st)
ended_at pos.Open st = None
ended_at (pos.Number k) st = None
ended_at (pos.Closed k) st = Some (with_last st)
ended_at pos.Star st = Some (with_last st)
ended_at pos.Stars st = Some (with_last st)
ended_at pos.Dot st = None
ended_at pos.Field st = Some (record { steps = st.steps; field = Some st.name })

-- the path, where it may end here
abbrev pub ended : State → Option Query
ended st = ended_at st.at st
