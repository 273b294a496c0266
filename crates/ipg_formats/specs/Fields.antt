-- How a number stands in a file: its bytes, with the low one first or the high one first.
use Rattle.std.specs.Prelude.{ℕ, zero, suc, ◌%◌, List, [], ◌∷◌, ◌++◌}
use Rattle.std.specs.Int.{to_le_bytes, to_be_bytes, w16, w32, w64}

unfoldable pub le16 : ℕ → List ℕ
le16 x = to_le_bytes w16 x

unfoldable pub le32 : ℕ → List ℕ
le32 x = to_le_bytes w32 x

unfoldable pub le64 : ℕ → List ℕ
le64 x = to_le_bytes w64 x

unfoldable pub be16 : ℕ → List ℕ
be16 x = to_be_bytes w16 x

unfoldable pub be32 : ℕ → List ℕ
be32 x = to_be_bytes w32 x

-- f 0, f 1, .., f (n - 1), end to end
unfoldable pub each : ℕ → (ℕ → List ℕ) → List ℕ
each zero f = []
each (suc n) f = each n f ++ f n

-- n bytes that count up from 0, modulo 256
abbrev pub counters : ℕ → List ℕ
counters n = each n (λ i. i % 256 ∷ [])
