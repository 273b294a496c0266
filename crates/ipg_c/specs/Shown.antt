-- What is told in memory of the caller's.
use Rattle.std.specs.Prelude.{ℕ, List, ◌++◌, length, take, drop}

-- a text, or rows, shown as far as the room goes; behind it the room stays as it was
abbrev pub shown : {A : Type 0} → (told room : List A) → List A
shown told room = take (length room) told ++ drop (length told) room
