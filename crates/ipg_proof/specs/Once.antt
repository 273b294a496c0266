-- A certificate proves a grammar or is at fault, never both, and for one reason; a text is of one certificate.
use Rattle.std.specs.Prelude.{◌≡◌, ◌⊎◌, ℕ, List}
use Rattle.ipg_core.specs.Grammar.{Grammar}
use Rattle.ipg_proof.specs.declared.certificate.Certificate.{Certificate}
use Rattle.ipg_proof.specs.declared.fault.ProofWhy.{ProofWhy}
use Rattle.ipg_proof.specs.declared.fault.ProofWhy.TheVariants.{Memory}
use Rattle.ipg_proof.specs.Proves.{Proves, IsFault}
use Rattle.ipg_proof.specs.Texts.{IsTextOf}

-- one that proves has no fault but want of memory
abbrev pub ProvesIsNoFault : Type 0
ProvesIsNoFault = (g : Grammar) (c : Certificate) (why : ProofWhy) → Proves g c → IsFault g c why → why ≡ Memory

-- and any other has one
abbrev pub FaultIsOne : Type 0
FaultIsOne = (g : Grammar) (c : Certificate) (why other : ProofWhy) → IsFault g c why → IsFault g c other → (why ≡ Memory) ⊎ (other ≡ Memory) ⊎ (why ≡ other)

-- a text is of one certificate at most
abbrev pub TextIsOfOne : Type 0
TextIsOfOne = (text : List ℕ) (c d : Certificate) → IsTextOf c text → IsTextOf d text → c ≡ d
