-- What is handed on from row to row: each row has 256 flags.
use Rattle.std.specs.Prelude.{◌≡◌, ℕ, ◌+◌, ◌*◌, ◌<◌, List, [], ◌∷◌, length, Bool, true, false, slice_set, Contains, ◌↔◌}
use Rattle.ipg_core.specs.MustTouch.{Marks, is_marked}
use Rattle.ipg_order.specs.declared.closure.Hand.{Hand}

-- the place of a flag
abbrev pub flag : ℕ → ℕ → ℕ
flag row column = row * 256 + column

-- a key, or what a callee's row hands on
pub data Reached (keys : List ℕ) (hands : List Hand) : ℕ → Type 0 where
  direct : (k : ℕ) → Contains keys k → Reached keys hands k
  handed : (hand : Hand) (column : ℕ) → Contains hands hand → column < 256 → Reached keys hands (flag hand.callee column)
      → Reached keys hands (flag hand.caller column)

abbrev pub AreSound : List ℕ → List Hand → Marks → Type 0
AreSound keys hands flags = (k : ℕ) → is_marked flags k ≡ true → Reached keys hands k

pub record AreReached (rows : ℕ) (keys : List ℕ) (hands : List Hand) (flags : Marks) : Type 0 where
  pub size : length flags ≡ rows * 256
  pub exact : (k : ℕ) → (is_marked flags k ≡ true) ↔ Reached keys hands k

abbrev pub IsRow : ℕ → Hand → Type 0
IsRow rows hand = (hand.caller < rows) × (hand.callee < rows)

-- the columns below that number are handed on
abbrev pub IsHandedOn : ℕ → Hand → Marks → Type 0
IsHandedOn columns hand flags = (column : ℕ) → column < columns → is_marked flags (flag hand.callee column) ≡ true
    → is_marked flags (flag hand.caller column) ≡ true

abbrev pub AreHandedOn : List Hand → Marks → Type 0
AreHandedOn hands flags = (hand : Hand) → Contains hands hand → IsHandedOn 256 hand flags

-- a flag is set since another one is, or all stay as they were
abbrev pub Stepped : Bool → Marks → ℕ → ℕ → Marks → Type 0
Stepped true old from to new = (new ≡ slice_set old to true) × (is_marked old from ≡ true) × (is_marked old to ≡ false)
Stepped false old from to new = (new ≡ old) × (is_marked old from ≡ true → is_marked old to ≡ true)

abbrev pub unset : Marks → ℕ
unset [] = 0
unset (true ∷ flags) = unset flags
unset (false ∷ flags) = unset flags + 1
