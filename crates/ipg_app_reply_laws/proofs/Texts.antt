-- Scripts, certificates and bodies of table files are read, or have a first byte at fault.
use Rattle.std.proofs.Common.{◌≡◌, ℕ, ◌⊎◌, inl, inr, refl, arith, List, []}
use Rattle.ipg_reader.specs.Faults.{Continues, IsFirstFault}
use Rattle.ipg_edit_script.specs.Scripts.{AreEdits, script_text}
use Rattle.ipg_proof.specs.declared.certificate.Certificate.{Certificate}
use Rattle.ipg_proof.specs.Texts as cert
use Rattle.ipg_proof.specs.Texts.{IsTextOf, IsTextFault, text_of}
use Rattle.ipg_store_body.specs.declared.body.Body.{Body}
use Rattle.ipg_store_body.specs.Fits.{FitsBody, spelled}
use Rattle.ipg_app_reply_laws.proofs.Classical.{Somehow, some, ◌>>=◌, by, middle}
use Rattle.ipg_app_reply_laws.proofs.Readers.{first_fault}

-- ---- spellings

-- the text spells such a value
abbrev pub Spells : {A : Type 0} → (A → Type 0) → (A → List ℕ) → List ℕ → Type 0
Spells {A} Is spell text = (a : A) × Is a × (text ≡ spell a)

reads_spelling : {A : Type 0} (Is : A → Type 0) (spell : A → List ℕ) (one : A) → Is one → (text : List ℕ)
    → Somehow (Spells Is spell text ⊎ ((at : ℕ) × IsFirstFault Is spell text at))
reads_spelling Is spell one is text = do
  whole ← middle (Spells Is spell text)
  by whole (λ so. some (inl so)) (λ none. do
    f ← first_fault (Continues Is spell) (one, spell one, is, refl) text
    some (inr (f.at, record { within = f.within; before = f.before; there = f.there; ends = λ a so e. none (a, so, e) })))

-- ---- scripts

pub reads_script : (text : List ℕ) → Somehow (Spells AreEdits script_text text ⊎ ((at : ℕ) × IsFirstFault AreEdits script_text text at))
reads_script text = reads_spelling AreEdits script_text [] tt text

-- ---- bodies

abbrev empty_body : Body
empty_body = record { names = []; rules = [] }

empty_fits : FitsBody empty_body
empty_fits = ((omega arith, tt), (omega arith, tt))

pub reads_body : (text : List ℕ) → Somehow (Spells FitsBody spelled text ⊎ ((at : ℕ) × IsFirstFault FitsBody spelled text at))
reads_body text = reads_spelling FitsBody spelled empty_body empty_fits text

-- ---- certificates

abbrev empty : Certificate
empty = record { dead = []; cycles = [] }

empty_speaks : IsTextOf empty (text_of empty)
empty_speaks = (((omega arith, tt), (omega arith, tt)), refl)

pub reads_certificate : (text : List ℕ) → Somehow (((c : Certificate) × IsTextOf c text) ⊎ ((at : ℕ) × IsTextFault text at))
reads_certificate text = do
  whole ← middle ((c : Certificate) × IsTextOf c text)
  by whole (λ is. some (inl is)) (λ none. do
    f ← first_fault cert.GoesOn (empty, text_of empty, empty_speaks) text
    some (inr (f.at, record { within = f.within; before = f.before; there = f.there; ends = λ c is. none (c, is) })))
