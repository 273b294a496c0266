-- A number as an item of a repetition.
use Rattle.std.proofs.Common.{◌≡◌, ℕ, ◌+◌, ◌-◌, ◌<◌, ◌≤◌, refl, ◌∙◌, arith, List, drop, Some, None, Bool, true, false, length}
use Rattle.std.specs.Prelude.{nat_lt, nat_le, if◌then◌else◌}
use Rattle.std.proofs.lemmas.Bool.{le-ltb, leb-true, le-leb, lt-leb}
use Rattle.std.proofs.lemmas.List.{length-drop, length-take-le}
use Rattle.ipg_core.specs.declared.grammar.Primitive.{Primitive}
use Rattle.ipg_core.specs.declared.grammar.Primitive.TheVariants.{U8, U16LE, U16BE, U32LE, U32BE, U64LE, U64BE, Bytes}
use Rattle.ipg_core.specs.declared.grammar.Sym.TheVariants.{Prim}
use Rattle.ipg_core.specs.Part.{part}
use Rattle.ipg_core.specs.Touch.{width}
use Rattle.ipg_core.specs.Meaning.{item_end}
use Rattle.ipg_mach_failures.specs.declared.failure.Cause.TheVariants.{CutShort}
use Rattle.ipg_mach_failures.specs.Failing.{miss, item_fails}

part_size : (bytes : List ℕ) (from w : ℕ) → from + w ≤ length bytes → length (part bytes from (from + w)) ≡ w
part_size bytes from w h =
    let left = length-drop from bytes in
    length-take-le (from + w - from) (drop from bytes) (omega (arith, left, h)) ∙ omega arith

-- a number that has room, and one that hasn't
number_item : (bytes : List ℕ) (from to w : ℕ) (prim : Primitive) (b : Bool) → width prim ≡ w → nat_le (from + w) to ≡ b → to ≤ length bytes
    → item_fails bytes from to (Prim prim) (if nat_le (from + w) to then Some (from + w) else None)
    ≡ (if b then None else Some (miss 0 (CutShort (to - from)) (Some to)))
number_item bytes from to w prim true wide e inside =
    let fits = leb-true (from + w) to e in
    let enough : nat_lt (length (part bytes from (from + w))) (width prim) ≡ false =
    le-ltb _ _ (let size = part_size bytes from w (omega (arith, fits, inside)) in omega (arith, size, wide)) in
    rw e (rw enough refl)
number_item bytes from to w prim false wide e inside = rw e refl

room : (from to w : ℕ) → from ≤ to → w ≤ to - from → nat_le (from + w) to ≡ true
room from to w valid h = le-leb (from + w) to (omega (arith, valid, h))

no_room : (from to w : ℕ) → to - from < w → nat_le (from + w) to ≡ false
no_room from to w h = lt-leb (from + w) to (omega (arith, h))

module _ (bytes : List ℕ) (from to : ℕ) (valid : from ≤ to) (inside : to ≤ length bytes) where
  pub fits : (prim : Primitive) → width prim ≤ to - from → item_fails bytes from to (Prim prim) (item_end from to (Prim prim)) ≡ None
  fits Bytes h = let enough : nat_lt (length (part bytes from to)) 0 ≡ false = le-ltb (length (part bytes from to)) 0 (omega arith) in rw enough refl
  fits U8 h = number_item bytes from to 1 U8 true refl (room from to 1 valid h) inside
  fits U16LE h = number_item bytes from to 2 U16LE true refl (room from to 2 valid h) inside
  fits U16BE h = number_item bytes from to 2 U16BE true refl (room from to 2 valid h) inside
  fits U32LE h = number_item bytes from to 4 U32LE true refl (room from to 4 valid h) inside
  fits U32BE h = number_item bytes from to 4 U32BE true refl (room from to 4 valid h) inside
  fits U64LE h = number_item bytes from to 8 U64LE true refl (room from to 8 valid h) inside
  fits U64BE h = number_item bytes from to 8 U64BE true refl (room from to 8 valid h) inside

  pub lacks : (prim : Primitive) → to - from < width prim
      → item_fails bytes from to (Prim prim) (item_end from to (Prim prim)) ≡ Some (miss 0 (CutShort (to - from)) (Some to))
  lacks Bytes h = absurd (omega (arith, h))
  lacks U8 h = number_item bytes from to 1 U8 false refl (no_room from to 1 h) inside
  lacks U16LE h = number_item bytes from to 2 U16LE false refl (no_room from to 2 h) inside
  lacks U16BE h = number_item bytes from to 2 U16BE false refl (no_room from to 2 h) inside
  lacks U32LE h = number_item bytes from to 4 U32LE false refl (no_room from to 4 h) inside
  lacks U32BE h = number_item bytes from to 4 U32BE false refl (no_room from to 4 h) inside
  lacks U64LE h = number_item bytes from to 8 U64LE false refl (no_room from to 8 h) inside
  lacks U64BE h = number_item bytes from to 8 U64BE false refl (no_room from to 8 h) inside
