-- Laws of table files.
use Rattle.std.specs.Prelude.{◌≡◌, ℕ, List, ◌⊎◌, Result, Err}
use Rattle.ipg_core.specs.Grammar.{Grammar}
use Rattle.ipg_core.specs.Total.{Total}
use Rattle.ipg_proof.specs.declared.certificate.Certificate.{Certificate}
use Rattle.ipg_store.specs.declared.fault.LoadFault.{LoadFault}
use Rattle.ipg_store.specs.declared.fault.LoadFault.TheVariants.{Memory}
use Rattle.ipg_store.specs.File.{Holds}
use Rattle.ipg_store.specs.Faults.{IsAnswer}

-- a file has one answer, want of memory apart
abbrev pub LoadOnce : Type 0
LoadOnce = (file : List ℕ) (a b : Result Grammar LoadFault) → IsAnswer file a → IsAnswer file b → (a ≡ Err Memory) ⊎ (b ≡ Err Memory) ⊎ (a ≡ b)

-- parsing by a grammar that a file holds ends
abbrev pub HeldIsTotal : Type 0
HeldIsTotal = (file : List ℕ) (g : Grammar) (c : Certificate) → Holds file g c → Total g
