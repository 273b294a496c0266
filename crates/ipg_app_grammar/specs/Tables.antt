-- Table files: what is written of a grammar, and the grammar that a file holds, or why it holds none.
use Rattle.std.specs.Prelude.{◌≡◌, ℕ, List, ◌++◌, codes, decimal, Result, Ok, Err, Option, None, Some}
use Rattle.ipg_core.specs.Grammar.{Grammar}
use Rattle.ipg_proof.specs.declared.certificate.Certificate.{Certificate}
use Rattle.ipg_store.specs.declared.fault.LoadFault.{LoadFault}
use Rattle.ipg_store.specs.declared.fault.LoadFault.TheVariants.{Magic, Length, Body, NotGood, CertText, Proof, Memory}
use Rattle.ipg_store.specs.File.{Holds}
use Rattle.ipg_store.specs.Faults.{IsHeld, IsLoadFault}
use Rattle.ipg_app_text.specs.Said.{Said, done, bad_proof}

-- a file that holds the grammar, with some certificate that proves it
pub record Tables (g : Grammar) (said : Said) : Type 0 where
  pub certificate : Certificate
  pub file : List ℕ
  pub holds : Holds file g certificate
  pub is : said ≡ done file

-- L1 to L6; nothing is at fault for want of memory
abbrev pub load_said : LoadFault → Option Said
load_said Magic = Some (bad_proof (codes "L1 Magic"))
load_said Length = Some (bad_proof (codes "L2 Length"))
load_said (Body at) = Some (bad_proof (codes "L3 Body " ++ decimal at))
load_said NotGood = Some (bad_proof (codes "L4 NotGood"))
load_said (CertText at) = Some (bad_proof (codes "L5 CertText " ++ decimal at))
load_said (Proof at) = Some (bad_proof (codes "L6 Proof " ++ decimal at))
load_said Memory = None

pub record HoldsNone (file : List ℕ) (said : Said) : Type 0 where
  pub fault : LoadFault
  pub holds : IsLoadFault file fault
  pub is : load_said fault ≡ Some said

-- the grammar of a file with a certificate that proves it, or what is said of a file that has none
abbrev pub Loads : List ℕ → Result Grammar Said → Type 0
Loads file (Ok g) = IsHeld file g
Loads file (Err said) = HoldsNone file said
