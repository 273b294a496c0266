-- Scripts of edits: how they are written, and where a text first isn't one.
use Rattle.std.specs.Prelude.{◌≡◌, ℕ, ◌+◌, ◌/◌, ◌%◌, ◌^◌, ◌<◌, nat_lt, List, [], ◌∷◌, ◌++◌, decimal, if◌then◌else◌}
use Rattle.std.specs.List.{flat_map, AllByRecursion}
use Rattle.ipg_edit_script.specs.declared.script.Edit.{Edit}

-- ---- how a script is written

-- a digit from 0 to 15: `0` to `9`, then `a` to `f`
abbrev pub hex_digit : ℕ → ℕ
hex_digit n = if nat_lt n 10 then 48 + n else 87 + n

abbrev pub byte_text : ℕ → List ℕ
byte_text b = hex_digit (b / 16) ∷ hex_digit (b % 16) ∷ []

-- two digits a byte
abbrev pub hex : List ℕ → List ℕ
hex bytes = flat_map byte_text bytes

-- no bytes are `-`
abbrev pub with_text : List ℕ → List ℕ
with_text [] = 45 ∷ []
with_text (b ∷ bs) = hex (b ∷ bs)

-- both places, a space behind each
abbrev pub places_text : ℕ → ℕ → List ℕ
places_text from to = decimal from ++ 32 ∷ (decimal to ++ 32 ∷ [])

-- `FROM TO HEX` and a line feed
abbrev pub line : Edit → List ℕ
line edit = places_text edit.from edit.to ++ (with_text edit.with ++ 10 ∷ [])

abbrev pub script_text : List Edit → List ℕ
script_text edits = flat_map line edits

-- ---- what may stand in it

abbrev pub IsByte : ℕ → Type 0
IsByte b = b < 256

pub record IsEdit (edit : Edit) : Type 0 where
  pub from : edit.from < 2 ^ 32
  pub to : edit.to < 2 ^ 32
  pub with_bytes : AllByRecursion IsByte edit.with

abbrev pub AreEdits : List Edit → Type 0
AreEdits edits = AllByRecursion IsEdit edits

-- the text is the script of these edits
pub record IsScript (edits : List Edit) (text : List ℕ) : Type 0 where
  pub each : AreEdits edits
  pub written : text ≡ script_text edits
