-- Files in memory: a list of names with bytes, in which the last of a name counts.
use Rattle.std.specs.Prelude.{◌≡◌, ℕ, ◌+◌, Bool, true, false, if◌then◌else◌, List, [], ◌∷◌, length, take}
use Rattle.std.specs.Prelude.{nat_eq, nat_le, Option, None, Some, ⊤, MatchResult, Result, Ok, Err}
use Rattle.std.specs.List.{list_any}
use Rattle.std.specs.Str.{bytes_eq}
use Rattle.std.specs.declared.vec.Vec.{Vec}
use Rattle.std.specs.declared.alloc.Global.{Global}
use Rattle.ipg_outside.specs.Faults.{counted_up}
use Rattle.ipg_outside.specs.Files.{Told, untold, absent, holds}
use Rattle.ipg_outside.specs.declared.files.FileFault.{FileFault}
use Rattle.ipg_outside.specs.declared.files.FileFault.TheVariants.{Failed, TooLarge, Memory}

-- the files, the numbers of the calls that fail, and how many calls and faults there were
pub record Shelf : Type 0 where
  pub files : List (List ℕ × List ℕ)
  pub fail : List ℕ
  pub calls : ℕ
  pub faults : ℕ

-- what is told by one more file, where the others tell this
abbrev pub told_after : List ℕ → Told → List ℕ × List ℕ → Told
told_after name others file = if bytes_eq name file.0 then holds file.1 else others

-- what a list of files tells of a name
abbrev pub told_in_from : List ℕ → Told → List (List ℕ × List ℕ) → Told
told_in_from name others [] = others
told_in_from name others (file ∷ files) = told_in_from name (told_after name others file) files

abbrev pub told_in : List ℕ → List (List ℕ × List ℕ) → Told
told_in name files = told_in_from name absent files

-- the bytes that are told
abbrev pub bytes_told : Told → List ℕ
bytes_told untold = []
bytes_told absent = []
bytes_told (holds bytes) = bytes

-- the bytes under a name, none where no file has it
abbrev pub bytes_in : List ℕ → List (List ℕ × List ℕ) → List ℕ
bytes_in name files = bytes_told (told_in name files)

-- the bytes under a name, if any
abbrev pub told_found : Option (List ℕ) → Told
told_found None = absent
told_found (Some bytes) = holds bytes

-- what a reading gives
pub data Reading : Type 0 where
  whole : List ℕ → Reading
  cut : List ℕ → Reading
  failed : Reading

-- the reading of what is told under a limit
abbrev pub reading_of : Told → ℕ → Reading
reading_of untold limit = failed
reading_of absent limit = failed
reading_of (holds bytes) limit = if nat_le (length bytes) limit then whole bytes else cut (take (limit + 1) bytes)

-- the reading that this call gives
abbrev pub reading : Shelf → List ℕ → ℕ → Reading
reading shelf name limit = if list_any (λ k. nat_eq k shelf.calls) shelf.fail then failed else reading_of (told_in name shelf.files) limit

-- a call answers with this reading, or finds no memory
abbrev pub FaultGives : FileFault → Reading → Type 0
FaultGives Failed r = r ≡ failed
FaultGives (TooLarge front) r = r ≡ cut front.items
FaultGives Memory r = ⊤

abbrev pub Gives : Result (Vec ℕ Global) FileFault → Reading → Type 0
Gives result r = MatchResult result (λ bytes. r ≡ whole bytes.items) (λ fault. FaultGives fault r)

-- a call counts itself, and a failed one its fault
abbrev pub counted : Shelf → Bool → Shelf
counted shelf has_failed = record shelf { calls = counted_up shelf.calls; faults = if has_failed then counted_up shelf.faults else shelf.faults }

abbrev pub fault_is_failed : FileFault → Bool
fault_is_failed Failed = true
fault_is_failed (TooLarge front) = false
fault_is_failed Memory = false

-- whether an answer is Failed
abbrev pub is_failed_of : Result (Vec ℕ Global) FileFault → Bool
is_failed_of (Ok bytes) = false
is_failed_of (Err fault) = fault_is_failed fault
