-- What a caller hands over: words and files in memory.
use Rattle.std.specs.Prelude.{ℕ, List, [], ◌∷◌, map, Bool, if◌then◌else◌, Option, None, Some}
use Rattle.std.specs.List.{list_all}
use Rattle.std.specs.Str.{bytes_eq, is_utf8}
use Rattle.ipg_outside.specs.Files.{Told, absent, holds}
use Rattle.ipg_outside.specs.Sink.{Output}
use Rattle.ipg_c.specs.declared.words.Word.{Word}
use Rattle.ipg_c.specs.declared.files.File.{File}

-- the bytes of each word
abbrev pub words_of : List Word → List (List ℕ)
words_of words = map (λ word. word.bytes.now) words

-- the words, where all are text; else none
abbrev pub read_words : List (List ℕ) → List (List ℕ)
read_words words = if list_all is_utf8 words then words else []

-- the bytes of the first file of a name
abbrev pub found : List ℕ → List File → Option (List ℕ)
found name [] = None
found name (file ∷ files) = if bytes_eq file.name.now name then Some file.bytes.now else found name files

-- what is told of a name: its bytes, or that no file has it
abbrev pub told_by : Option (List ℕ) → Told
told_by None = absent
told_by (Some bytes) = holds bytes

abbrev pub told_of : List ℕ → List File → Told
told_of name files = told_by (found name files)

-- readings fail of a name that no file has, and of no other
abbrev pub faults_by : Option (List ℕ) → ℕ → ℕ
faults_by None faults = faults
faults_by (Some bytes) faults = 0

abbrev pub faults_of : List ℕ → List File → ℕ → ℕ
faults_of name files faults = faults_by (found name files) faults

-- all is written, nothing waits
abbrev pub output_of : List ℕ → Output
output_of text = record { written = text; held = [] }
