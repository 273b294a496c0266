-- Why a file is no table file: the first of six.
use Rattle.std.specs.Prelude.{◌≡◌, ℕ, ◌<◌, ◌≤◌, List, length, take, drop, ◌⊎◌, Result, Ok, Err}
use Rattle.std.specs.Int.{w64, from_le_bytes}
use Rattle.ipg_core.specs.Grammar.{Grammar}
use Rattle.ipg_core.specs.Good.{Good}
use Rattle.ipg_reader.specs.Faults.{IsFirstFault}
use Rattle.ipg_store_body.specs.declared.body.Body.{Body}
use Rattle.ipg_store_body.specs.Fits.{FitsBody, IsBody, bare, spelled}
use Rattle.ipg_store_adopt.specs.Adopted.{HasNoGrammar}
use Rattle.ipg_proof.specs.declared.certificate.Certificate.{Certificate}
use Rattle.ipg_proof.specs.declared.fault.ProofWhy.TheVariants.{Mismatch, Unsound}
use Rattle.ipg_proof.specs.Proves.{IsFault}
use Rattle.ipg_proof.specs.Texts.{IsTextOf, IsTextFault}
use Rattle.ipg_store.specs.declared.fault.LoadFault.{LoadFault}
use Rattle.ipg_store.specs.declared.fault.LoadFault.TheVariants.{Magic, Length, Body as OfBody, NotGood, CertText, Proof, Memory}
use Rattle.ipg_store.specs.File.{magic, Holds}

-- ---- the parts of a file

abbrev pub Begins : List ℕ → Type 0
Begins file = take 8 file ≡ magic

-- the number in the second eight bytes
abbrev pub announced : List ℕ → ℕ
announced file = from_le_bytes w64 (take 8 (drop 8 file))

-- what stands behind it
abbrev pub behind : List ℕ → List ℕ
behind file = drop 16 file

-- so many bytes of that, and the others
abbrev pub body_in : List ℕ → List ℕ
body_in file = take (announced file) (behind file)

abbrev pub proof_in : List ℕ → List ℕ
proof_in file = drop (announced file) (behind file)

-- ---- what is at fault in each

-- it has fewer than 16 bytes, or the body's length is above the number of those that follow
abbrev pub IsCut : List ℕ → Type 0
IsCut file = (length file < 16) ⊎ (length (behind file) < announced file)

pub record IsWhole (file : List ℕ) : Type 0 where
  pub begins : Begins file
  pub size : 16 ≤ length file
  pub enough : announced file ≤ length (behind file)

-- the bytes are the body of a good grammar
abbrev pub IsGrammarIn : List ℕ → Grammar → Type 0
IsGrammarIn body g = Good g × IsBody (bare g) body

-- they are a body, but of no good grammar
abbrev pub IsOfNone : List ℕ → Type 0
IsOfNone body = (b : Body) × IsBody b body × HasNoGrammar b

-- the certificate doesn't prove the grammar, and the entry at fault is that one
abbrev pub IsUnproved : Grammar → Certificate → ℕ → Type 0
IsUnproved g c at = IsFault g c (Mismatch at) ⊎ IsFault g c (Unsound at)

abbrev pub FailsAt : Grammar → List ℕ → ℕ → Type 0
FailsAt g proof at = (c : Certificate) × IsTextOf c proof × IsUnproved g c at

-- ---- each fault

abbrev pub IsLoadFault : List ℕ → LoadFault → Type 0
IsLoadFault file Magic = ¬ Begins file
IsLoadFault file Length = Begins file × IsCut file
IsLoadFault file (OfBody at) = IsWhole file × IsFirstFault FitsBody spelled (body_in file) at
IsLoadFault file NotGood = IsWhole file × IsOfNone (body_in file)
IsLoadFault file (CertText at) = IsWhole file × ((g : Grammar) × IsGrammarIn (body_in file) g) × IsTextFault (proof_in file) at
IsLoadFault file (Proof at) = IsWhole file × ((g : Grammar) × IsGrammarIn (body_in file) g × FailsAt g (proof_in file) at)
IsLoadFault file Memory = Unit {0}

-- ---- the answer for a file

-- the grammar that it holds
abbrev pub IsHeld : List ℕ → Grammar → Type 0
IsHeld file g = (c : Certificate) × Holds file g c

-- or why it holds none
abbrev pub IsAnswer : List ℕ → Result Grammar LoadFault → Type 0
IsAnswer file (Ok g) = IsHeld file g
IsAnswer file (Err fault) = IsLoadFault file fault
