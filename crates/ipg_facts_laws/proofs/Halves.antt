-- The halves of a number that bytes hold are within their ranges.
use Rattle.std.proofs.Common.{◌≡◌, ℕ, zero, suc, ◌<◌, ◌≤◌, arith, List, [], ◌∷◌, take, drop, get_or, Some, None, Bool, true, false, if◌then◌else◌, ℤ, pos}
use Rattle.std.specs.Prelude.{bytes_eq, codes}
use Rattle.std.specs.Int.{w8, w16, w32, from_le_bytes, from_be_bytes}
use Rattle.std.specs.List.{AllByRecursion}
use Rattle.std.proofs.lemmas.Int.{ints}
use Rattle.ipg_core.specs.declared.grammar.Primitive.{Primitive}
use Rattle.ipg_core.specs.declared.grammar.Primitive.TheVariants.{U8, U16LE, U16BE, U32LE, U32BE, U64LE, U64BE, Bytes}
use Rattle.ipg_core.specs.Meaning.{halves}
use Rattle.ipg_facts_laws.specs.Known.{IsRanged, AreRanged}

abbrev pub AreBytes : List ℕ → Type 0
AreBytes bytes = AllByRecursion (λ b. b < 256) bytes

pub bytes_of_drop : (n : ℕ) (s : List ℕ) → AreBytes s → AreBytes (drop n s)
bytes_of_drop zero s h = h
bytes_of_drop (suc n) [] h = h
bytes_of_drop (suc n) (b ∷ s) h = bytes_of_drop n s h.1

pub bytes_of_take : (n : ℕ) (s : List ℕ) → AreBytes s → AreBytes (take n s)
bytes_of_take zero s h = tt
bytes_of_take (suc n) [] h = tt
bytes_of_take (suc n) (b ∷ s) h = (h.0, bytes_of_take n s h.1)

byte_at : (s : List ℕ) (k : ℕ) → AreBytes s → get_or s k 0 < 256
byte_at [] k h = omega arith
byte_at (b ∷ s) zero h = h.0
byte_at (b ∷ s) (suc k) h = byte_at s k h.1

le_8 : (s : List ℕ) → AreBytes s → from_le_bytes w8 s ≤ 255
le_8 s h = omega (arith, byte_at s 0 h)

le_16 : (s : List ℕ) → AreBytes s → from_le_bytes w16 s ≤ 65535
le_16 s h = omega (arith, byte_at s 0 h, byte_at s 1 h)

be_16 : (s : List ℕ) → AreBytes s → from_be_bytes w16 s ≤ 65535
be_16 s h = omega (arith, byte_at s 0 h, byte_at s 1 h)

le_32 : (s : List ℕ) → AreBytes s → from_le_bytes w32 s ≤ 4294967295
le_32 s h = omega (arith, byte_at s 0 h, byte_at s 1 h, byte_at s 2 h, byte_at s 3 h)

be_32 : (s : List ℕ) → AreBytes s → from_be_bytes w32 s ≤ 4294967295
be_32 s h = omega (arith, byte_at s 0 h, byte_at s 1 h, byte_at s 2 h, byte_at s 3 h)

whole_ranged : (b : Bool) (most low : ℕ) (z : ℤ) → low ≤ most → (if b then Some (pos low) else None) ≡ Some z → IsRanged (if b then Some most else None) z
whole_ranged true most low z le e = let same : pos low ≡ z = cc in (omega (arith, ints), omega (arith, ints))
whole_ranged false most low z le e = tt

half_ranged : (b c : Bool) (high low : ℕ) (z : ℤ) → high ≤ 4294967295 → low ≤ 4294967295
    → (if b then Some (pos high) else if c then Some (pos low) else None) ≡ Some z
    → IsRanged (if b then Some 4294967295 else if c then Some 4294967295 else None) z
half_ranged true c high low z h l e = let same : pos high ≡ z = cc in (omega (arith, ints), omega (arith, ints))
half_ranged false true high low z h l e = let same : pos low ≡ z = cc in (omega (arith, ints), omega (arith, ints))
half_ranged false false high low z h l e = tt

pub halves_ranged : (prim : Primitive) (bytes : List ℕ) → AreBytes bytes → AreRanged prim (halves prim bytes).0 (halves prim bytes).1
halves_ranged U8 bytes h name z e = whole_ranged (bytes_eq name (codes "val")) 255 (from_le_bytes w8 bytes) z (le_8 bytes h) e
halves_ranged U16LE bytes h name z e = whole_ranged (bytes_eq name (codes "val")) 65535 (from_le_bytes w16 bytes) z (le_16 bytes h) e
halves_ranged U16BE bytes h name z e = whole_ranged (bytes_eq name (codes "val")) 65535 (from_be_bytes w16 bytes) z (be_16 bytes h) e
halves_ranged U32LE bytes h name z e = whole_ranged (bytes_eq name (codes "val")) 4294967295 (from_le_bytes w32 bytes) z (le_32 bytes h) e
halves_ranged U32BE bytes h name z e = whole_ranged (bytes_eq name (codes "val")) 4294967295 (from_be_bytes w32 bytes) z (be_32 bytes h) e
halves_ranged U64LE bytes h name z e =
    half_ranged (bytes_eq name (codes "hi")) (bytes_eq name (codes "lo")) (from_le_bytes w32 (drop 4 bytes)) (from_le_bytes w32 bytes) z
    (le_32 (drop 4 bytes) (bytes_of_drop 4 bytes h)) (le_32 bytes h) e
halves_ranged U64BE bytes h name z e =
    half_ranged (bytes_eq name (codes "hi")) (bytes_eq name (codes "lo")) (from_be_bytes w32 bytes) (from_be_bytes w32 (drop 4 bytes)) z
    (be_32 bytes h) (be_32 (drop 4 bytes) (bytes_of_drop 4 bytes h)) e
halves_ranged Bytes bytes h name z e = tt
