-- Numbers in the making: their digits, one by one.
use Rattle.std.specs.Prelude.{◌≡◌, ℕ, ◌+◌, ◌-◌, ◌*◌, ◌≤◌, ◌<◌, List, [], ◌∷◌, ◌++◌, length, decimal, Option, Some, None}

abbrev pub IsDigit : ℕ → Type 0
IsDigit b = (48 ≤ b) × (b ≤ 57)

-- b stands first in the digits of n
pub record Begun (n b : ℕ) : Type 0 where
  pub digit : IsDigit b
  pub zero_is : b ≡ 48 → n ≡ 0

-- b stands in the digits of n behind those of v
pub record Goes (v n b : ℕ) : Type 0 where
  pub digit : IsDigit b
  pub some : 1 ≤ v
  pub least : v * 10 + (b - 48) ≤ n

-- no number begins here
abbrev pub IsNoStart : ℕ → List ℕ → Type 0
IsNoStart least [] = Unit {0}
IsNoStart least (b ∷ left) = (n : ℕ) → least ≤ n → ¬ Begun n b

-- no number up to `most` goes on here
abbrev pub IsDone : ℕ → ℕ → List ℕ → Type 0
IsDone most v [] = Unit {0}
IsDone most v (b ∷ left) = (n : ℕ) → n ≤ most → ¬ Goes v n b

-- the bytes read are the digits of a number
pub record IsNumber (least most : ℕ) (bytes left : List ℕ) (v : ℕ) : Type 0 where
  pub splits : bytes ≡ decimal v ++ left
  pub above : least ≤ v
  pub small : v ≤ most

abbrev pub FirstAnswer : ℕ → List ℕ → List ℕ → Option ℕ → Type 0
FirstAnswer least bytes left None = (left ≡ bytes) × IsNoStart least bytes
FirstAnswer least bytes left (Some v) = IsNumber least 9 bytes left v

-- a digit more
pub record IsMore (most v : ℕ) (bytes left : List ℕ) (next : ℕ) : Type 0 where
  pub splits : decimal v ++ bytes ≡ decimal next ++ left
  pub above : v ≤ next
  pub small : next ≤ most
  pub less : length left < length bytes

abbrev pub NextAnswer : ℕ → ℕ → List ℕ → List ℕ → Option ℕ → Type 0
NextAnswer most v bytes left None = (left ≡ bytes) × IsDone most v bytes
NextAnswer most v bytes left (Some next) = IsMore most v bytes left next

-- the number with one digit more, if it stays within `most` and has a digit to stand behind
abbrev pub WithDigit : ℕ → ℕ → ℕ → Option ℕ → Type 0
WithDigit most v d None = 1 ≤ v → most < v * 10 + d
WithDigit most v d (Some next) = (1 ≤ v) × (next ≡ v * 10 + d) × (next ≤ most)
