-- What the steps of loading say of their parts of a file.
use Rattle.std.specs.Prelude.{ℕ, List}
use Rattle.ipg_core.specs.Grammar.{Grammar}
use Rattle.ipg_reader.specs.Faults.{IsFirstFault}
use Rattle.ipg_store_body.specs.Fits.{FitsBody, spelled}
use Rattle.ipg_proof.specs.Texts.{IsTextFault}
use Rattle.ipg_store.specs.declared.fault.LoadFault.{LoadFault}
use Rattle.ipg_store.specs.declared.fault.LoadFault.TheVariants.{Magic, Length, Body as OfBody, NotGood, CertText, Proof, Memory}
use Rattle.ipg_store.specs.Faults.{Begins, IsCut, IsOfNone, FailsAt}

abbrev pub IsPartsFault : List ℕ → LoadFault → Type 0
IsPartsFault file Magic = ¬ Begins file
IsPartsFault file Length = Begins file × IsCut file
IsPartsFault file (OfBody at) = ⊥
IsPartsFault file NotGood = ⊥
IsPartsFault file (CertText at) = ⊥
IsPartsFault file (Proof at) = ⊥
IsPartsFault file Memory = ⊥

abbrev pub IsGrammarFault : List ℕ → LoadFault → Type 0
IsGrammarFault body Magic = ⊥
IsGrammarFault body Length = ⊥
IsGrammarFault body (OfBody at) = IsFirstFault FitsBody spelled body at
IsGrammarFault body NotGood = IsOfNone body
IsGrammarFault body (CertText at) = ⊥
IsGrammarFault body (Proof at) = ⊥
IsGrammarFault body Memory = Unit {0}

abbrev pub IsProofFault : Grammar → List ℕ → LoadFault → Type 0
IsProofFault g proof Magic = ⊥
IsProofFault g proof Length = ⊥
IsProofFault g proof (OfBody at) = ⊥
IsProofFault g proof NotGood = ⊥
IsProofFault g proof (CertText at) = IsTextFault proof at
IsProofFault g proof (Proof at) = FailsAt g proof at
IsProofFault g proof Memory = Unit {0}
