-- Spellings of values, and where bytes first aren't one.
use Rattle.std.specs.Prelude.{◌≡◌, ℕ, ◌+◌, ◌≤◌, ◌<◌, List, ◌++◌, length, take}
use Rattle.ipg_reader.specs.declared.fault.Fault.{Fault}
use Rattle.ipg_reader.specs.declared.fault.Fault.TheVariants.{At, Memory}

-- a spelling goes on from the bytes, or is all of them
abbrev pub Continues : {A : Type 0} → (A → Type 0) → (A → List ℕ) → List ℕ → Type 0
Continues {A} Is spell bytes = (a : A) × (rest : List ℕ) × Is a × (spell a ≡ bytes ++ rest)

-- the first byte with which no spelling goes on; the length where all bytes begin one and are none
pub record IsFirstFault {A : Type 0} (Is : A → Type 0) (spell : A → List ℕ) (text : List ℕ) (at : ℕ) : Type 0 where
  pub within : at ≤ length text
  pub before : Continues Is spell (take at text)
  pub there : at < length text → ¬ Continues Is spell (take (at + 1) text)
  pub ends : (a : A) → Is a → ¬ (text ≡ spell a)

-- no spelling is the text; want of memory says nothing of it
abbrev pub IsFault : {A : Type 0} → (A → Type 0) → (A → List ℕ) → List ℕ → Fault → Type 0
IsFault Is spell text (At at) = IsFirstFault Is spell text at
IsFault Is spell text Memory = Unit {0}
