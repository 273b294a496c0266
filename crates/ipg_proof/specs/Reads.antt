-- What a reader answers: the value whose spelling it took, or that no spelling goes on with the byte where it stands.
use Rattle.std.specs.Prelude.{◌≡◌, ℕ, ◌≤◌, ◌<◌, ◌^◌, List, [], ◌∷◌, ◌++◌, length, Result, MatchResult}
use Rattle.std.specs.List.{AllByRecursion}
use Rattle.ipg_proof.specs.declared.cursor.Stall.{Stall}
use Rattle.ipg_proof.specs.declared.cursor.Stall.TheVariants.{Here, Memory}

-- a spelling goes on from the bytes, or is all of them
abbrev pub Continues : {A : Type 0} → (A → Type 0) → (A → List ℕ) → List ℕ → Type 0
Continues {A} Is spell bytes = (a : A) × Is a × (rest : List ℕ) × (spell a ≡ bytes ++ rest)

pub record Taken {A : Type 0} (Is : A → Type 0) (spell : A → List ℕ) (bytes left : List ℕ) (a : A) : Type 0 where
  pub is : Is a
  pub splits : bytes ≡ spell a ++ left

abbrev pub Stops : {A : Type 0} → (A → Type 0) → (A → List ℕ) → List ℕ → List ℕ → Type 0
Stops Is spell taken [] = Unit {0}
Stops Is spell taken (b ∷ left) = ¬ Continues Is spell (taken ++ b ∷ [])

-- what was taken begins a spelling and is none, and with the next byte none goes on
pub record IsStuck {A : Type 0} (Is : A → Type 0) (spell : A → List ℕ) (bytes left : List ℕ) : Type 0 where
  pub taken : List ℕ
  pub splits : bytes ≡ taken ++ left
  pub begins : Continues Is spell taken
  pub stops : Stops Is spell taken left

abbrev pub Halts : {A : Type 0} → (A → Type 0) → (A → List ℕ) → List ℕ → List ℕ → Stall → Type 0
Halts Is spell bytes left Here = IsStuck Is spell bytes left
Halts Is spell bytes left Memory = Unit {0}

-- from these bytes the answer, and what is left
pub record Reads {A : Type 0} (Is : A → Type 0) (spell : A → List ℕ) (bytes left : List ℕ) (r : Result A Stall) : Type 0 where
  pub says : MatchResult r (Taken Is spell bytes left) (Halts Is spell bytes left)
  pub back : (a : A) (rest : List ℕ) → Is a → bytes ≡ spell a ++ rest → MatchResult r (λ b. (b ≡ a) × (left ≡ rest)) (λ why. why ≡ Memory)

-- no spelling begins another
abbrev pub AreAlone : {A : Type 0} → (A → Type 0) → (A → List ℕ) → Type 0
AreAlone {A} Is spell = (a b : A) (more : List ℕ) → Is a → Is b → spell b ≡ spell a ++ more → more ≡ []

-- so many values, one spelling after another
abbrev pub AreSo : {A : Type 0} → (A → Type 0) → ℕ → List A → Type 0
AreSo Is n values = (length values ≡ n) × AllByRecursion Is values

abbrev pub any : Unit {0} → Type 0
any it = Unit {0}

abbrev pub always : List ℕ → Unit {0} → List ℕ
always word it = word

-- a number from `least` to `most`
abbrev pub IsWithin : ℕ → ℕ → ℕ → Type 0
IsWithin least most n = (least ≤ n) × (n ≤ most)

-- a number of 32 bits that is at least `least`
abbrev pub IsFrom : ℕ → ℕ → Type 0
IsFrom least n = (least ≤ n) × (n < 2 ^ 32)
