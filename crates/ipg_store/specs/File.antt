-- A table file: a good grammar and a certificate that proves it, as bytes.
use Rattle.std.specs.Prelude.{◌≡◌, ℕ, List, [], ◌∷◌, ◌++◌, length}
use Rattle.ipg_core.specs.Grammar.{Grammar}
use Rattle.ipg_core.specs.Good.{Good}
use Rattle.ipg_reader.specs.Laws.{HasCount, long_text}
use Rattle.ipg_store_body.specs.Fits.{FitsBody, bare, spelled}
use Rattle.ipg_proof.specs.declared.certificate.Certificate.{Certificate}
use Rattle.ipg_proof.specs.Proves.{Proves}
use Rattle.ipg_proof.specs.Texts.{IsSpeakable, text_of}

-- `ipgtab1` and a line feed
abbrev pub magic : List ℕ
magic = 105 ∷ 112 ∷ 103 ∷ 116 ∷ 97 ∷ 98 ∷ 49 ∷ 10 ∷ []

-- the body's length stands before it, in eight bytes
abbrev pub file_with : List ℕ → List ℕ → List ℕ
file_with body proof = magic ++ (long_text (length body) ++ (body ++ proof))

-- the names and the rules, without the orders of terms
abbrev pub body_of : Grammar → List ℕ
body_of g = spelled (bare g)

abbrev pub file_of : Grammar → Certificate → List ℕ
file_of g c = file_with (body_of g) (text_of c)

-- the file is that of a good grammar in which no expression nests deeper than 400, and of a certificate that proves it
pub record Holds (file : List ℕ) (g : Grammar) (c : Certificate) : Type 0 where
  pub good : Good g
  pub fits : FitsBody (bare g)
  pub counted : HasCount (body_of g)
  pub speakable : IsSpeakable c
  pub proves : Proves g c
  pub is : file ≡ file_of g c
