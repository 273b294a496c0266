-- Certificates: the text of one that proves a grammar, and what is said of one that is to prove it.
use Rattle.std.specs.Prelude.{◌≡◌, ℕ, List, ◌++◌, ◌⊎◌, codes, decimal, Result, Ok, Err, Option, None, Some}
use Rattle.ipg_core.specs.Grammar.{Grammar}
use Rattle.ipg_proof.specs.declared.certificate.Certificate.{Certificate}
use Rattle.ipg_proof.specs.declared.fault.ProofWhy.{ProofWhy}
use Rattle.ipg_proof.specs.declared.fault.ProofWhy.TheVariants.{Mismatch, Unsound, Memory}
use Rattle.ipg_proof.specs.Proves.{Proves, IsFault}
use Rattle.ipg_proof.specs.Texts.{text_of, IsSpeakable, IsTextOf, IsTextFault}
use Rattle.ipg_app_text.specs.Said.{Said, done, done_line, bad_proof}

-- the text of some certificate that proves the grammar, and that texts can say
pub record Certifies (g : Grammar) (said : Said) : Type 0 where
  pub certificate : Certificate
  pub proves : Proves g certificate
  pub speakable : IsSpeakable certificate
  pub is : said ≡ done (text_of certificate)

-- ---- C1: the text is a certificate's

abbrev pub cert_text : ℕ → Said
cert_text at = bad_proof (codes "C1 CertText " ++ decimal at)

pub record IsNoText (text : List ℕ) (said : Said) : Type 0 where
  pub at : ℕ
  pub fault : IsTextFault text at
  pub is : said ≡ cert_text at

-- the text of this certificate, and of no other
pub record IsOnlyOf (text : List ℕ) (c : Certificate) : Type 0 where
  pub is : IsTextOf c text
  pub only : (other : Certificate) → IsTextOf other text → c ≡ other

abbrev pub Reads : List ℕ → Result Certificate Said → Type 0
Reads text (Ok c) = IsOnlyOf text c
Reads text (Err said) = IsNoText text said

-- ---- C2 and C3: its entries are those that are due, and its refutations check

abbrev pub verified : Said
verified = done_line (codes "verified")

-- nothing proves wrong for want of memory
abbrev pub proof_said : ProofWhy → Option Said
proof_said (Mismatch at) = Some (bad_proof (codes "C2 Mismatch " ++ decimal at))
proof_said (Unsound at) = Some (bad_proof (codes "C3 Unsound " ++ decimal at))
proof_said Memory = None

pub record Fails (g : Grammar) (c : Certificate) (said : Said) : Type 0 where
  pub why : ProofWhy
  pub fault : IsFault g c why
  pub is : proof_said why ≡ Some said

abbrev pub Judges : Grammar → Certificate → Said → Type 0
Judges g c said = (Proves g c × (said ≡ verified)) ⊎ Fails g c said
