-- Refutations as texts: one whole tree of steps within their ranges, its words and a line feed.
use Rattle.std.specs.Prelude.{◌≡◌, ℕ, zero, suc, ◌+◌, ◌^◌, ◌≤◌, ◌<◌, List, [], ◌∷◌, ◌++◌, length, take, drop, min, ◌-◌, ℤ, pos, negsuc}
use Rattle.std.specs.List.{AllByRecursion}
use Rattle.ipg_cert.specs.declared.refutation.Step.{Step}
use Rattle.ipg_cert.specs.declared.refutation.Step.TheVariants.{Combine, Split, Either}
use Rattle.ipg_cert.specs.declared.words.WordFault.{WordFault}
use Rattle.ipg_cert.specs.declared.words.WordFault.TheVariants.{At, Memory}
use Rattle.ipg_cert.specs.Words.{words_of}

-- how many trees follow a step
abbrev pub parts_of : Step → ℕ
parts_of (Combine entries) = 0
parts_of (Split x at) = 2
parts_of (Either fact parts) = parts

-- the steps are so many whole trees, one after another
abbrev pub AreTrees : ℕ → List Step → Type 0
AreTrees n [] = n ≡ 0
AreTrees zero (step ∷ steps) = ⊥
AreTrees (suc n) (step ∷ steps) = AreTrees (n + parts_of step) steps

abbrev pub IsWord : ℕ → Type 0
IsWord n = n < 2 ^ 64

abbrev pub IsSignedWord : ℤ → Type 0
IsSignedWord (pos n) = n < 2 ^ 63
IsSignedWord (negsuc n) = n < 2 ^ 63

abbrev pub IsEntry : ℕ × ℕ → Type 0
IsEntry entry = IsWord entry.0 × IsWord entry.1

-- the numbers that words may hold
abbrev pub IsInRange : Step → Type 0
IsInRange (Combine entries) = (1 ≤ length entries) × IsWord (length entries) × AllByRecursion IsEntry entries
IsInRange (Split x at) = IsWord x × IsSignedWord at
IsInRange (Either fact parts) = IsWord fact × (1 ≤ parts) × IsWord parts

pub record IsTextOf (steps : List Step) (text : List ℕ) : Type 0 where
  pub tree : AreTrees 1 steps
  pub ranges : AllByRecursion IsInRange steps
  pub words : text ≡ words_of steps ++ 10 ∷ []

-- the bytes begin a text, and are not all of it
abbrev pub Begins : List ℕ → Type 0
Begins bytes = (steps : List Step) × (b : ℕ) × (rest : List ℕ) × IsTextOf steps (bytes ++ b ∷ rest)

-- a text begins with the bytes, or is all of them
abbrev pub GoesOn : List ℕ → Type 0
GoesOn bytes = (steps : List Step) × (rest : List ℕ) × IsTextOf steps (bytes ++ rest)

-- so many bytes begin a text, and with the next one, if there is one, no text goes on
pub record IsFirstFault (bytes : List ℕ) (n : ℕ) : Type 0 where
  pub within : n ≤ length bytes
  pub before : Begins (take n bytes)
  pub there : n < length bytes → ¬ GoesOn (take (n + 1) bytes)

-- from a place of the text to another stands the text of the steps
pub record IsTextAt (text : List ℕ) (from : ℕ) (steps : List Step) (to : ℕ) : Type 0 where
  pub order : from ≤ to
  pub within : to ≤ length text
  pub is : IsTextOf steps (take (to - from) (drop from text))

-- from a place of the text on, the place of the first fault
pub record IsFaultFrom (text : List ℕ) (from place : ℕ) : Type 0 where
  pub taken : ℕ
  pub is : IsFirstFault (drop from text) taken
  pub place_is : place ≡ min from (length text) + taken

abbrev pub IsFault : List ℕ → ℕ → WordFault → Type 0
IsFault text from (At place) = IsFaultFrom text from place
IsFault text from Memory = Unit {0}
