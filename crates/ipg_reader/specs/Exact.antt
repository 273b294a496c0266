-- When a reader reads a spelling exactly.
use Rattle.std.specs.Prelude.{◌≡◌, ℕ, ◌<◌, List, [], ◌∷◌, ◌++◌, Ok, Err}
use Rattle.std.specs.List.{AllByRecursion}
use Rattle.ipg_reader.specs.Found.{Found}

abbrev pub AreBytes : List ℕ → Type 0
AreBytes bytes = AllByRecursion (λ b. b < 256) bytes

-- the value is found whatever stands behind what was taken
pub record IsTaken {A : Type 0} (read : List ℕ → Found A) (bytes left : List ℕ) (a : A) : Type 0 where
  pub taken : List ℕ
  pub splits : bytes ≡ taken ++ left
  pub again : (more : List ℕ) → read (taken ++ more) ≡ Ok (a, more)

-- the byte at fault is so whatever stands behind it
abbrev pub Stays : {A : Type 0} → (List ℕ → Found A) → List ℕ → List ℕ → Type 0
Stays read taken [] = Unit {0}
Stays read taken (b ∷ left) = (more : List ℕ) → read (taken ++ b ∷ more) ≡ Err (b ∷ more)

-- with other bytes in place of those that are left, a value is found
pub record IsStuck {A : Type 0} (read : List ℕ → Found A) (bytes left : List ℕ) : Type 0 where
  pub taken : List ℕ
  pub splits : bytes ≡ taken ++ left
  pub stays : Stays read taken left
  pub others : List ℕ
  pub are_bytes : AreBytes others
  pub value : A
  pub found : read (taken ++ others) ≡ Ok (value, [])

abbrev pub IsAnswer : {A : Type 0} → (List ℕ → Found A) → List ℕ → Found A → Type 0
IsAnswer read bytes (Ok x) = IsTaken read bytes x.1 x.0
IsAnswer read bytes (Err left) = IsStuck read bytes left

-- an answer depends on no byte behind those that it takes, and goes on for as long as one can
pub record IsSteady {A : Type 0} (read : List ℕ → Found A) : Type 0 where
  pub each : (bytes : List ℕ) → IsAnswer read bytes (read bytes)
  pub some : List ℕ
  pub are_bytes : AreBytes some
  pub value : A
  pub found : read some ≡ Ok (value, [])

-- it finds each value that is spelled, and no other
pub record IsExact {A : Type 0} (Is : A → Type 0) (spell : A → List ℕ) (read : List ℕ → Found A) : Type 0 where
  pub steady : IsSteady read
  pub sound : (bytes left : List ℕ) (a : A) → AreBytes bytes → read bytes ≡ Ok (a, left) → Is a × (bytes ≡ spell a ++ left)
  pub again : (a : A) (more : List ℕ) → Is a → read (spell a ++ more) ≡ Ok (a, more)
