-- A certificate that proves a grammar, and whose numbers are those of their types, is one that texts can say.
use Rattle.std.specs.Prelude.{length}
use Rattle.std.specs.List.{AllByRecursion}
use Rattle.ipg_core.specs.Grammar.{Grammar}
use Rattle.ipg_core.specs.Good.{Good}
use Rattle.ipg_cert.specs.declared.refutation.Refutation.{Refutation}
use Rattle.ipg_cert.specs.declared.refutation.Step.{Step}
use Rattle.ipg_cert.specs.declared.refutation.Step.TheVariants.{Combine, Split, Either}
use Rattle.ipg_cert.specs.Texts.{IsWord, IsSignedWord, IsEntry}
use Rattle.ipg_proof.specs.declared.certificate.Certificate.{Certificate}
use Rattle.ipg_proof.specs.Texts.{IsLong, IsSpeakable}
use Rattle.ipg_proof.specs.Proves.{Proves}

-- a step's numbers have 64 bits
abbrev pub HasWords : Step → Type 0
HasWords (Combine entries) = AllByRecursion IsEntry entries
HasWords (Split x at) = IsWord x × IsSignedWord at
HasWords (Either fact parts) = IsWord fact × IsWord parts

abbrev pub HaveWords : Refutation → Type 0
HaveWords r = AllByRecursion HasWords r.steps

-- what each certificate in memory is
pub record IsTyped (c : Certificate) : Type 0 where
  pub dead : AllByRecursion (λ entry. HaveWords entry.1) c.dead
  pub cycles : AllByRecursion (λ entry. HaveWords entry.1) c.cycles
  pub few : IsLong (length c.cycles)

abbrev pub ProvesIsSpeakable : Type 0
ProvesIsSpeakable = (g : Grammar) (c : Certificate) → Good g → Proves g c → IsTyped c → IsSpeakable c
