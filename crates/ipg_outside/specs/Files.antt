-- What is told of a file, and what a reading of it may give.
use Rattle.std.specs.Prelude.{◌≡◌, ℕ, ◌+◌, ◌<◌, ◌≤◌, List, ◌++◌, length, take, Option, None, Some, ⊤}
use Rattle.std.specs.Io.KnownBytes.{Consumes}
use Rattle.std.specs.List.{AllByRecursion}
use Rattle.ipg_outside.specs.declared.files.FileFault.{FileFault}
use Rattle.ipg_outside.specs.declared.files.FileFault.TheVariants.{Failed, TooLarge, Memory}

-- what is told of a name: nothing at all, that it is absent, or its bytes
pub data Told : Type 0 where
  untold : Told
  absent : Told
  holds : List ℕ → Told

-- bytes, as those of each file
abbrev pub AreBytes : List ℕ → Type 0
AreBytes bytes = AllByRecursion (λ b. b < 256) bytes

-- these may be the bytes under a name of which this is told
abbrev pub MayHold : Told → List ℕ → Type 0
MayHold untold bytes = AreBytes bytes
MayHold absent bytes = ⊥
MayHold (holds known) bytes = bytes ≡ known

-- all bytes of a file that keeps the limit
pub record ReadWhole (told : Told) (limit : ℕ) (bytes : List ℕ) : Type 0 where
  pub contents : MayHold told bytes
  pub within : length bytes ≤ limit

-- the first bytes of a file that is longer than the limit, one more than that
pub record ReadCut (told : Told) (limit : ℕ) (front : List ℕ) : Type 0 where
  pub whole : List ℕ
  pub contents : MayHold told whole
  pub longer : limit < length whole
  pub front_is : front ≡ take (limit + 1) whole

-- a fact on the bytes that a fault carries
abbrev pub IfTooLarge : FileFault → (List ℕ → Type 0) → Type 0
IfTooLarge (TooLarge front) P = P front.items
IfTooLarge Failed P = ⊤
IfTooLarge Memory P = ⊤

-- what a reader's known bytes tell
abbrev pub told_by : Option (List ℕ) → Told
told_by None = untold
told_by (Some known) = holds known

-- what left the known bytes of a reader was appended here
abbrev pub Moves : Option (List ℕ) → Option (List ℕ) → List ℕ → List ℕ → Type 0
Moves before after old new = (got : List ℕ) × Consumes before after got × (new ≡ old ++ got)
