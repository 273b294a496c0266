-- What is found under a name, as a step of its own.
use Rattle.std.specs.Prelude.{◌≡◌, ℕ, ◌<◌, ◌^◌, List, length, Option, None, Some}
use Rattle.ipg_formats.specs.declared.Kind.{Kind}
use Rattle.ipg_formats.specs.Names.{kind_of}
use Rattle.ipg_formats.specs.Text.{text_of}
use Rattle.ipg_outside.specs.Files.{Told, MayHold}
use Rattle.ipg_app_text.specs.declared.text.GrammarText.{GrammarText}
use Rattle.ipg_app_text.specs.declared.text.GrammarText.TheVariants as text
use Rattle.ipg_app_text.specs.Said.{Said}
use Rattle.ipg_app_text.specs.Order.{Order, Step, says, Answers, contents, have, ◌>>=◌}
use Rattle.ipg_app_text.specs.Steps.{input_in}

-- ---- texts

abbrev pub bytes_of : GrammarText → Option (List ℕ)
bytes_of (text.BuiltIn kind) = Some (text_of kind)
bytes_of (text.Read bytes) = Some bytes.items
bytes_of text.TooLong = None

-- it is that of these bytes; of too many none is kept
abbrev pub IsText : GrammarText → List ℕ → Type 0
IsText (text.BuiltIn kind) bytes = bytes ≡ text_of kind
IsText (text.Read these) bytes = bytes ≡ these.items
IsText text.TooLong bytes = 2 ^ 20 < length bytes

-- a name of which this is told may hold the text
pub record HeldText (told : Told) (text : GrammarText) : Type 0 where
  pub bytes : List ℕ
  pub held : MayHold told bytes
  pub is : IsText text bytes

abbrev pub FoundBy : Option Kind → Told → GrammarText → Type 0
FoundBy (Some kind) told text = IsText text (text_of kind)
FoundBy None told text = HeldText told text

-- the text is a built-in one by its name, or a file's
abbrev pub FoundText : (List ℕ → Told) → List ℕ → GrammarText → Type 0
FoundText told name text = FoundBy (kind_of name) (told name) text

-- ---- inputs

abbrev pub input_in_file : List ℕ → Step (List ℕ)
input_in_file name next = do
  bytes ← contents name
  input ← have (input_in bytes)
  next input

-- ---- what is said

-- nothing is said from here on
abbrev pub silence : Order
silence = says (λ s. ⊥)

-- that is said whatever is told
abbrev pub Says : Order → Said → Type 0
Says order said = (told : List ℕ → Told) → Answers told order said
