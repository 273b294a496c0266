-- Laws of numbers and texts.
use Rattle.std.specs.Prelude.{ℕ, ℤ, pos, negsuc, ◌<◌, ◌^◌, List, ◌++◌, length}
use Rattle.std.specs.List.{flat_map, AllByRecursion}
use Rattle.std.specs.Int.{w32, w64, to_le_bytes, cast_unsigned}
use Rattle.ipg_reader.specs.Found.{number_at, signed_at, text_at}
use Rattle.ipg_reader.specs.Exact.{AreBytes, IsExact}

-- ---- numbers within their bits

abbrev pub IsShort : ℕ → Type 0
IsShort n = n < 2 ^ 32

abbrev pub IsLong : ℕ → Type 0
IsLong n = n < 2 ^ 64

-- from -2^63 to 2^63 - 1
abbrev pub IsSigned : ℤ → Type 0
IsSigned (pos n) = n < 2 ^ 63
IsSigned (negsuc n) = n < 2 ^ 63

-- ---- how they are spelled

abbrev pub short_text : ℕ → List ℕ
short_text = to_le_bytes w32

abbrev pub long_text : ℕ → List ℕ
long_text = to_le_bytes w64

-- a negative one as it is in two's complement
abbrev pub signed_text : ℤ → List ℕ
signed_text z = long_text (cast_unsigned w64 z)

-- a count and as many bytes
abbrev pub counted_text : List ℕ → List ℕ
counted_text bytes = long_text (length bytes) ++ bytes

abbrev pub HasCount : {A : Type 0} → List A → Type 0
HasCount xs = IsLong (length xs)

-- a count and as many values
abbrev pub list_text : {A : Type 0} → (A → List ℕ) → List A → List ℕ
list_text spell xs = long_text (length xs) ++ flat_map spell xs

abbrev pub AreCounted : {A : Type 0} → (A → Type 0) → List A → Type 0
AreCounted Is xs = HasCount xs × AllByRecursion Is xs

abbrev pub IsText : List ℕ → Type 0
IsText bytes = HasCount bytes × AreBytes bytes

-- ---- what their readers find

abbrev pub ShortAreExact : Type 0
ShortAreExact = IsExact IsShort short_text (number_at w32)

abbrev pub LongAreExact : Type 0
LongAreExact = IsExact IsLong long_text (number_at w64)

abbrev pub SignedAreExact : Type 0
SignedAreExact = IsExact IsSigned signed_text signed_at

abbrev pub TextsAreExact : Type 0
TextsAreExact = IsExact IsText counted_text text_at
