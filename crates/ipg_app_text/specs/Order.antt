-- Orders of answers: steps one after another, each of which may settle what is said.
use Rattle.std.specs.Prelude.{◌≡◌, ℕ, ◌⊎◌, List, Result, Ok, Err}
use Rattle.ipg_outside.specs.Files.{Told, absent, MayHold}
use Rattle.ipg_app_text.specs.Said.{Said, read_fault}

pub data Order : Type 1 where
  -- what is said is one of these
  says : (Said → Type 0) → Order
  -- a value that is so leads on
  finds : {A : Type 0} → (A → Type 0) → (A → Order) → Order
  -- a name is read, and what it holds leads on
  reads : (name : List ℕ) → (List ℕ → Order) → Order

abbrev pub only : Said → Order
only said = says (λ s. s ≡ said)

-- a step: it settles what is said, or hands a value to the steps behind it
abbrev pub Step : Type 0 → Type 1
Step A = (A → Order) → Order

infixl 10 ◌>>=◌
abbrev pub ◌>>=◌ : {A : Type 0} → Step A → Step A
step >>= next = step next

-- goes on with a value; else that is said
abbrev pub have : {A : Type 0} → Result A Said → Step A
have (Ok a) next = next a
have (Err said) next = only said

-- goes on with a value that is so
abbrev pub found : {A : Type 0} → (A → Type 0) → Step A
found P next = finds P next

abbrev pub contents : List ℕ → Step (List ℕ)
contents name next = reads name next

-- what is said where each reading of a name gives bytes that it may hold; an absent one is said to be at fault
abbrev pub Answers : (List ℕ → Told) → Order → Said → Type 0
Answers told (says P) said = P said
Answers told (finds P next) said = (a : _) × P a × Answers told (next a) said
Answers told (reads name next) said =
    ((told name ≡ absent) × (said ≡ read_fault)) ⊎ ((bytes : List ℕ) × MayHold (told name) bytes × Answers told (next bytes) said)

-- the turn of a name comes, by what is found and what the names read before it may hold
abbrev pub Turn : (List ℕ → Told) → Order → List ℕ → Type 0
Turn told (says P) n = ⊥
Turn told (finds P next) n = (a : _) × P a × Turn told (next a) n
Turn told (reads name next) n =
    (n ≡ name) ⊎ ((bytes : List ℕ) × MayHold (told name) bytes × Turn told (next bytes) n)
