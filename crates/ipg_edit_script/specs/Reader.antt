-- A reader of a script, byte after byte: where it stands, and where each byte takes it.
use Rattle.std.specs.Prelude.{ℕ, ◌+◌, ◌-◌, ◌*◌, ◌%◌, ◌^◌, Bool, not, ◌&&◌, ◌||◌, nat_le, ◌==◌, if◌then◌else◌, List, [], ◌∷◌, ◌++◌}
use Rattle.std.specs.Prelude.{Option, None, Some}
use Rattle.ipg_reader.specs.Digits.{is_digit, digit_value}
use Rattle.ipg_edit_script.specs.declared.script.Edit.{Edit}
use Rattle.ipg_edit_script.specs.declared.pos.Pos.{Pos}
use Rattle.ipg_edit_script.specs.declared.pos.Pos.TheVariants as pos
use Rattle.ipg_edit_script.specs.declared.pos.ScriptTurn.{ScriptTurn}
use Rattle.ipg_edit_script.specs.declared.pos.ScriptTurn.TheVariants.{Stuck, To, Add, End}

-- ---- digits

abbrev pub between : ℕ → ℕ → ℕ → Bool
between low high b = nat_le low b && nat_le b high

abbrev pub is_hex : ℕ → Bool
is_hex b = is_digit b || between 97 102 b

abbrev pub hex_value : ℕ → ℕ
hex_value b = if is_digit b then digit_value b else b - 87

-- the byte of two digits
abbrev pub byte_of : ℕ → ℕ → ℕ
byte_of high low = high % 16 * 16 + low % 16

-- a number with one digit more, where it stays within its limit; 0 has none
abbrev pub grown : ℕ → ℕ → Option ℕ
grown k value = if not (k == 0) && nat_le value (2 ^ 32 - 1) then Some value else None

-- ---- one byte

abbrev pub counted : (ℕ → Pos) → Option ℕ → ScriptTurn
counted at None = Stuck
counted at (Some k) = To (at k)

abbrev pub line_turn : ℕ → ScriptTurn
line_turn b = if is_digit b then To (pos.From (digit_value b)) else Stuck

abbrev pub more_from : ℕ → ℕ → ScriptTurn
more_from k b = counted pos.From (grown k (k * 10 + digit_value b))

abbrev pub from_turn : ℕ → ℕ → ScriptTurn
from_turn k b = if is_digit b then more_from k b else (if b == 32 then To (pos.Gap k) else Stuck)

abbrev pub gap_turn : ℕ → ℕ → ScriptTurn
gap_turn from b = if is_digit b then To (pos.To from (digit_value b)) else Stuck

abbrev pub more_to : ℕ → ℕ → ℕ → ScriptTurn
more_to from k b = counted (pos.To from) (grown k (k * 10 + digit_value b))

abbrev pub to_turn : ℕ → ℕ → ℕ → ScriptTurn
to_turn from k b = if is_digit b then more_to from k b else (if b == 32 then To (pos.With from k) else Stuck)

abbrev pub with_turn : ℕ → ℕ → ℕ → ScriptTurn
with_turn from to b = if is_hex b then To (pos.Half from to (hex_value b)) else (if b == 45 then To (pos.Nothing from to) else Stuck)

abbrev pub end_turn : ℕ → ℕ → ℕ → ScriptTurn
end_turn from to b = if b == 10 then End from to else Stuck

abbrev pub whole_turn : ℕ → ℕ → ℕ → ScriptTurn
whole_turn from to b = if is_hex b then To (pos.Half from to (hex_value b)) else end_turn from to b

abbrev pub half_turn : ℕ → ℕ → ℕ → ℕ → ScriptTurn
half_turn from to high b = if is_hex b then Add (byte_of high (hex_value b)) (pos.Whole from to) else Stuck

abbrev pub turn_at : Pos → ℕ → ScriptTurn
turn_at pos.Line b = line_turn b
turn_at (pos.From k) b = from_turn k b
turn_at (pos.Gap from) b = gap_turn from b
turn_at (pos.To from k) b = to_turn from k b
turn_at (pos.With from to) b = with_turn from to b
turn_at (pos.Nothing from to) b = end_turn from to b
turn_at (pos.Whole from to) b = whole_turn from to b
turn_at (pos.Half from to high) b = half_turn from to high b

-- ---- the script so far

-- the edits read, the bytes of the one at hand, and the place
pub record State : Type 0 where
  pub edits : List Edit
  pub with : List ℕ
  pub at : Pos

abbrev pub start : State
start = record { edits = []; with = []; at = pos.Line }

-- the line at hand has ended: its edit stands behind the others
abbrev pub closed : ℕ → ℕ → State → State
closed from to st = record { edits = st.edits ++ (record { from = from; to = to; with = st.with }) ∷ []; with = []; at = pos.Line }

abbrev pub taken : ScriptTurn → State → Option State
taken Stuck st = None
taken (To at) st = Some (record { edits = st.edits; with = st.with; at = at })
taken (Add byte at) st = Some (record { edits = st.edits; with = st.with ++ byte ∷ []; at = at })
taken (End from to) st = Some (closed from to st)

abbrev pub step : State → ℕ → Option State
step st b = taken (turn_at st.at b) st

abbrev pub ended_at : Pos → State → Option (List Edit)
ended_at pos.Line st = Some st.edits
ended_at (pos.From k) st = None
ended_at (pos.Gap from) st = None
ended_at (pos.To from k) st = None
ended_at (pos.With from to) st = None
ended_at (pos.Nothing from to) st = None
ended_at (pos.Whole from to) st = None
ended_at (pos.Half from to high) st = None

-- the edits, where a script may end here
abbrev pub ended : State → Option (List Edit)
ended st = ended_at st.at st
