-- What the steps of loading come to, of a whole file.
use Rattle.std.proofs.Common.{◌≡◌, ℕ, List, Result, Ok, Err, ◌⊎◌, inl, inr, sym, ap, subst, ◌∙◌}
use Rattle.std.specs.Prelude.{MatchResult}
use Rattle.std.specs.Result.{IsErrAnd}
use Rattle.ipg_core.specs.Grammar.{Grammar}
use Rattle.ipg_reader.specs.Laws.{HasCount}
use Rattle.ipg_proof.specs.declared.certificate.Certificate.{Certificate}
use Rattle.ipg_proof.specs.Proves.{Proves}
use Rattle.ipg_proof.specs.Texts.{IsTextOf}
use Rattle.ipg_store.specs.declared.fault.LoadFault.{LoadFault}
use Rattle.ipg_store.specs.declared.fault.LoadFault.TheVariants.{Magic, Length, Body as OfBody, NotGood, CertText, Proof, Memory}
use Rattle.ipg_store.specs.File.{file_with, body_of, Holds}
use Rattle.ipg_store.specs.Faults.{body_in, proof_in, IsGrammarIn, IsLoadFault, IsHeld, IsAnswer}
use Rattle.ipg_store.specs.Laws.{LoadOnce}
use Rattle.ipg_store.specs.Steps.{IsPartsFault, IsGrammarFault, IsProofFault}
use Rattle.ipg_store.proofs.Opened.{Opened, opened}

pub parts_fault : (file : List ℕ) (fault : LoadFault) → IsPartsFault file fault → IsLoadFault file fault
parts_fault file Magic h = h
parts_fault file Length h = h
parts_fault file (OfBody at) h = absurd h
parts_fault file NotGood h = absurd h
parts_fault file (CertText at) h = absurd h
parts_fault file (Proof at) h = absurd h
parts_fault file Memory h = absurd h

module _ (file body proof : List ℕ) (counted : HasCount body) (is : file ≡ file_with body proof) where
  abbrev parts : Opened file body proof
  parts = opened file body proof counted is

  pub grammar_fault : (fault : LoadFault) → IsGrammarFault body fault → IsLoadFault file fault
  grammar_fault fault h = by fault (subst (λ b. IsGrammarFault b fault) (sym parts.body_is) h)
    where
      by : (f : LoadFault) → IsGrammarFault (body_in file) f → IsLoadFault file f
      by Magic k = absurd k
      by Length k = absurd k
      by (OfBody at) k = (parts.whole, k)
      by NotGood k = (parts.whole, k)
      by (CertText at) k = absurd k
      by (Proof at) k = absurd k
      by Memory k = tt

  module _ (g : Grammar) (of : IsGrammarIn body g) where
    there : IsGrammarIn (body_in file) g
    there = subst (λ b. IsGrammarIn b g) (sym parts.body_is) of

    pub proof_fault : (fault : LoadFault) → IsProofFault g proof fault → IsLoadFault file fault
    proof_fault fault h = by fault (subst (λ p. IsProofFault g p fault) (sym parts.proof_is) h)
      where
        by : (f : LoadFault) → IsProofFault g (proof_in file) f → IsLoadFault file f
        by Magic k = absurd k
        by Length k = absurd k
        by (OfBody at) k = absurd k
        by NotGood k = absurd k
        by (CertText at) k = (parts.whole, (g, there), k)
        by (Proof at) k = (parts.whole, (g, there, k))
        by Memory k = tt

    pub held : (c : Certificate) → IsTextOf c proof → Proves g c → Holds file g c
    held c text proves = record {
      good = of.0;
      fits = of.1.0;
      counted = subst HasCount of.1.1 counted;
      speakable = text.0;
      proves = proves;
      is = is ∙ ap (λ b. file_with b proof) of.1.1 ∙ ap (file_with (body_of g)) text.1;
    }

-- ---- an answer, as that of a file that holds a grammar

abbrev pub Says : List ℕ → Result Grammar LoadFault → Type 0
Says file r = MatchResult r (IsHeld file) (IsLoadFault file)

-- a fault that is handed on
pub hands_on : (file : List ℕ) (r : Result Grammar LoadFault) (fault : LoadFault) → IsErrAnd r (λ e. e ≡ fault) → IsLoadFault file fault → Says file r
hands_on file (Ok g) fault h is = absurd h
hands_on file (Err e) fault h is = subst (IsLoadFault file) (sym h) is

pub last : (file body proof : List ℕ) (counted : HasCount body) (is : file ≡ file_with body proof) (g : Grammar) (of : IsGrammarIn body g)
    (r : Result Grammar LoadFault) → MatchResult r (λ h. (h ≡ g) × (c : Certificate) × IsTextOf c proof × Proves g c) (IsProofFault g proof) → Says file r
last file body proof counted is g of (Ok h) m =
    (m.1, subst (λ x. Holds file x m.1) (sym m.0) (held file body proof counted is g of m.1 m.2 m.3))
last file body proof counted is g of (Err fault) m = proof_fault file body proof counted is g of fault m

answers : (file : List ℕ) (r : Result Grammar LoadFault) → Says file r → IsAnswer file r
answers file (Ok g) h = h
answers file (Err fault) h = h

pub backs : (once : LoadOnce) (file : List ℕ) (r : Result Grammar LoadFault) (g : Grammar) (c : Certificate) → Says file r → Holds file g c
    → MatchResult r (λ loaded. loaded ≡ g) (λ fault. fault ≡ Memory)
backs once file r g c says holds = by r (once file r (Ok g) (answers file r says) (c, holds))
  where
    by : (s : Result Grammar LoadFault) → (s ≡ Err Memory) ⊎ (Ok g ≡ Err Memory) ⊎ (s ≡ Ok g)
        → MatchResult s (λ loaded. loaded ≡ g) (λ fault. fault ≡ Memory)
    by (Ok h) (inl e) = absurd (cc)
    by (Ok h) (inr (inl e)) = absurd (cc)
    by (Ok h) (inr (inr e)) = cc
    by (Err f) (inl e) = cc
    by (Err f) (inr (inl e)) = absurd (cc)
    by (Err f) (inr (inr e)) = absurd (cc)
