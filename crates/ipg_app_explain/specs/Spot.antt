-- A place in a text, for a person: its line and its column, both counted from 1, and the line with a mark under the place.
use Rattle.std.specs.Prelude.{ℕ, zero, suc, ◌+◌, ◌-◌, List, [], ◌∷◌, ◌++◌, codes, decimal, drop, take, map, replicate, slice_get}
use Rattle.std.specs.Prelude.{Bool, false, ◌&&◌, ◌==◌, nat_le, Option, None, Some, if◌then◌else◌}

-- ---- where it is

-- the byte ends a line
abbrev pub is_feed : Option ℕ → Bool
is_feed None = false
is_feed (Some b) = b == 10

abbrev pub ends_line : List ℕ → ℕ → Bool
ends_line text n = is_feed (slice_get text n)

-- the number of the line of a place: a line more behind each line feed
abbrev pub line_of : List ℕ → ℕ → ℕ
line_of text zero = 1
line_of text (suc n) = if ends_line text n then line_of text n + 1 else line_of text n

-- where the line of a place begins: behind the line feed before it
abbrev pub start_of : List ℕ → ℕ → ℕ
start_of text zero = 0
start_of text (suc n) = if ends_line text n then n + 1 else start_of text n

-- counted in bytes
abbrev pub column_of : List ℕ → ℕ → ℕ
column_of text at = at - start_of text at + 1

-- ---- its line

-- the bytes up to the first line feed
abbrev pub first_line : List ℕ → List ℕ
first_line [] = []
first_line (b ∷ bytes) = if b == 10 then [] else b ∷ first_line bytes

abbrev pub line_at : List ℕ → ℕ → List ℕ
line_at text at = first_line (drop (start_of text at) text)

-- a tab is shown as a blank, any other byte that isn't plain as a dot
abbrev pub seen_byte : ℕ → ℕ
seen_byte b = if nat_le 32 b && nat_le b 126 then b else (if b == 9 then 32 else 46)

-- of a longer line these bytes are shown, the place among them
abbrev pub shown_bytes : ℕ
shown_bytes = 100

-- how many bytes of the line are left out before those
abbrev pub left_of : List ℕ → ℕ → ℕ
left_of text at = at - start_of text at - 72

abbrev pub window : List ℕ → ℕ → List ℕ
window text at = take shown_bytes (drop (left_of text at) (line_at text at))

-- so many bytes of what is shown stand before the place
abbrev pub before_mark : List ℕ → ℕ → ℕ
before_mark text at = at - start_of text at - left_of text at

-- ---- for a person

-- NAME:LINE:COLUMN
abbrev pub place_line : List ℕ → List ℕ → ℕ → List ℕ
place_line name text at = name ++ 58 ∷ (decimal (line_of text at) ++ 58 ∷ (decimal (column_of text at) ++ 10 ∷ []))

-- what is shown of a line, and a `^` behind so many of its bytes
abbrev pub marked : List ℕ → ℕ → List ℕ
marked line before = codes "  " ++ (map seen_byte line ++ 10 ∷ codes "  " ++ (replicate before 32 ++ 94 ∷ 10 ∷ []))

abbrev pub spot_lines : List ℕ → List ℕ → ℕ → List ℕ
spot_lines name text at = place_line name text at ++ marked (window text at) (before_mark text at)
