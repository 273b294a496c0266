-- What stands at a place of a text: a name, or one byte.
use Rattle.std.specs.Prelude.{ℕ, List, [], ◌∷◌, drop, take, Bool, ◌&&◌, ◌||◌, ◌==◌, nat_le, if◌then◌else◌}
use Rattle.ipg_app_explain.specs.Spot.{seen_byte}

-- a letter, a digit or `_`
abbrev pub is_name_byte : ℕ → Bool
is_name_byte b = nat_le 97 b && nat_le b 122 || (nat_le 65 b && nat_le b 90 || (nat_le 48 b && nat_le b 57 || b == 95))

-- the name, or the number, that the bytes begin with
abbrev pub first_name : List ℕ → List ℕ
first_name [] = []
first_name (b ∷ bytes) = if is_name_byte b then b ∷ first_name bytes else []

-- of a longer name so many bytes are told
abbrev pub told_bytes : ℕ
told_bytes = 64

abbrev pub or_byte : List ℕ → List ℕ → List ℕ
or_byte [] [] = []
or_byte [] (b ∷ bytes) = seen_byte b ∷ []
or_byte (b ∷ name) bytes = take told_bytes (b ∷ name)

-- nothing at the text's end
abbrev pub word_in : List ℕ → List ℕ
word_in bytes = or_byte (first_name bytes) bytes

abbrev pub word_at : List ℕ → ℕ → List ℕ
word_at text at = word_in (drop at text)
