-- What is written holds what it was written of.
use Rattle.std.proofs.Common.{◌≡◌, ℕ, List, Result, Ok, Err, ap, subst, ◌∙◌}
use Rattle.std.specs.Prelude.{IfOk}
use Rattle.ipg_core.specs.Grammar.{Grammar}
use Rattle.ipg_core.specs.Good.{Good}
use Rattle.ipg_reader.specs.Laws.{HasCount}
use Rattle.ipg_store_body.specs.Fits.{IsBody, bare}
use Rattle.ipg_proof.specs.declared.certificate.Certificate.{Certificate}
use Rattle.ipg_proof.specs.Proves.{Proves}
use Rattle.ipg_proof.specs.Texts.{IsSpeakable, text_of}
use Rattle.ipg_store.specs.File.{file_with, body_of, Holds}

pub if_ok : {A E : Type 0} (P Q R : A → Type 0) (r : Result A E) → ((a : A) → P a → Q a → R a) → IfOk r P → IfOk r Q → IfOk r R
if_ok P Q R (Ok a) f h k = f a h k
if_ok P Q R (Err e) f h k = tt

pub holds : (g : Grammar) (c : Certificate) (file body proof : List ℕ) → Good g → IsBody (bare g) body → proof ≡ text_of c → IsSpeakable c → Proves g c
    → file ≡ file_with body proof → HasCount body → Holds file g c
holds g c file body proof good is_body text speakable proves is counted = record {
  good = good;
  fits = is_body.0;
  counted = subst HasCount is_body.1 counted;
  speakable = speakable;
  proves = proves;
  is = is ∙ ap (λ b. file_with b proof) is_body.1 ∙ ap (file_with (body_of g)) text;
}
