-- Certificates as texts.
use Rattle.std.specs.Prelude.{◌≡◌, ℕ, ◌+◌, ◌<◌, ◌≤◌, ◌^◌, List, [], ◌∷◌, ◌++◌, length, take, decimal}
use Rattle.std.specs.List.{AllByRecursion, flat_map}
use Rattle.ipg_cert.specs.declared.refutation.Refutation.{Refutation}
use Rattle.ipg_cert.specs.Words.{words_of}
use Rattle.ipg_cert.specs.Texts.{AreTrees, IsInRange}
use Rattle.ipg_proof.specs.declared.certificate.Certificate.{Certificate}
use Rattle.ipg_proof.specs.declared.fault.CertFault.{CertFault}
use Rattle.ipg_proof.specs.declared.fault.CertFault.TheVariants.{CertText, Memory}

-- `ipgcert 2`, a line feed, and `dead `
abbrev pub heading : List ℕ
heading = 105 ∷ 112 ∷ 103 ∷ 99 ∷ 101 ∷ 114 ∷ 116 ∷ 32 ∷ 50 ∷ 10 ∷ 100 ∷ 101 ∷ 97 ∷ 100 ∷ 32 ∷ []

-- `cycles `
abbrev pub between : List ℕ
between = 99 ∷ 121 ∷ 99 ∷ 108 ∷ 101 ∷ 115 ∷ 32 ∷ []

-- a number and the byte behind it
abbrev pub number_text : ℕ → ℕ → List ℕ
number_text stop n = decimal n ++ stop ∷ []

-- a refutation's words and a line feed
abbrev pub refutation_line : Refutation → List ℕ
refutation_line r = words_of r.steps ++ 10 ∷ []

-- EDGE REF
abbrev pub edge_line : ℕ × Refutation → List ℕ
edge_line entry = number_text 32 entry.0 ++ refutation_line entry.1

-- a count and the byte behind it, and as many values
abbrev pub counted_text : {A : Type 0} → ℕ → (A → List ℕ) → List A → List ℕ
counted_text stop spell values = number_text stop (length values) ++ flat_map spell values

-- K, then K times an EDGE, then REF
abbrev pub cycle_line : List ℕ × Refutation → List ℕ
cycle_line entry = counted_text 32 (number_text 32) entry.0 ++ refutation_line entry.1

abbrev pub text_of : Certificate → List ℕ
text_of c = (heading ++ counted_text 10 edge_line c.dead) ++ (between ++ counted_text 10 cycle_line c.cycles)

-- a number of 32 bits
abbrev pub IsShort : ℕ → Type 0
IsShort n = n < 2 ^ 32

-- a number of 64 bits
abbrev pub IsLong : ℕ → Type 0
IsLong n = n < 2 ^ 64

-- one whole tree, its numbers within their ranges
pub record IsTree (r : Refutation) : Type 0 where
  pub tree : AreTrees 1 r.steps
  pub ranges : AllByRecursion IsInRange r.steps

abbrev pub IsEdgeEntry : ℕ × Refutation → Type 0
IsEdgeEntry entry = IsShort entry.0 × IsTree entry.1

-- so many values as a count of such numbers tells, each such a one
abbrev pub AreCounted : {A : Type 0} → (ℕ → Type 0) → (A → Type 0) → List A → Type 0
AreCounted IsCount Is values = IsCount (length values) × AllByRecursion Is values

abbrev pub AreFew : {A : Type 0} → (A → Type 0) → List A → Type 0
AreFew Is values = AreCounted IsShort Is values

abbrev pub IsCycleEntry : List ℕ × Refutation → Type 0
IsCycleEntry entry = (1 ≤ length entry.0) × AreFew IsShort entry.0 × IsTree entry.1

-- what texts can say
abbrev pub IsSpeakable : Certificate → Type 0
IsSpeakable c = AreFew IsEdgeEntry c.dead × AreCounted IsLong IsCycleEntry c.cycles

abbrev pub IsTextOf : Certificate → List ℕ → Type 0
IsTextOf c text = IsSpeakable c × (text ≡ text_of c)

-- a certificate's text goes on from these bytes, or is all of them
abbrev pub GoesOn : List ℕ → Type 0
GoesOn bytes = (c : Certificate) × (rest : List ℕ) × IsTextOf c (bytes ++ rest)

-- the first byte with which no certificate's text goes on; the length where all bytes begin one and are none
pub record IsTextFault (text : List ℕ) (at : ℕ) : Type 0 where
  pub within : at ≤ length text
  pub before : GoesOn (take at text)
  pub there : at < length text → ¬ GoesOn (take (at + 1) text)
  pub ends : (c : Certificate) → ¬ IsTextOf c text

abbrev pub IsCertFault : List ℕ → CertFault → Type 0
IsCertFault text (CertText at) = IsTextFault text at
IsCertFault text Memory = Unit {0}
