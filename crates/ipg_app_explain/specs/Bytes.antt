-- Bytes and numbers, for a person.
use Rattle.std.specs.Prelude.{ℕ, ◌-◌, List, [], ◌∷◌, ◌++◌, codes, decimal, take, map, length, nat_eq, if◌then◌else◌}
use Rattle.hex.specs.Hex.{encode_lower}
use Rattle.ipg_app_explain.specs.Spot.{seen_byte}

-- so many bytes are shown at most
abbrev pub most_shown : ℕ
most_shown = 16

-- how many more there are
abbrev pub more_mark : ℕ → List ℕ
more_mark n = if nat_eq n 0 then [] else 43 ∷ decimal n

-- as text and in hexadecimal
abbrev pub bytes_words : List ℕ → List ℕ
bytes_words bytes =
    34 ∷ (map seen_byte (take most_shown bytes) ++ (codes "\" ("
    ++ (encode_lower (take most_shown bytes) ++ (more_mark (length bytes - most_shown) ++ codes ")"))))

abbrev pub bytes_unit : ℕ → List ℕ
bytes_unit n = if nat_eq n 1 then codes " byte" else codes " bytes"

-- so many bytes
abbrev pub counted : ℕ → List ℕ
counted n = decimal n ++ bytes_unit n

-- from a byte up to, and not including, another
abbrev pub extent : ℕ → ℕ → List ℕ
extent from to = decimal from ++ (codes ".." ++ decimal to)
