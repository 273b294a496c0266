-- The attributes that primitives have.
use Rattle.std.specs.Prelude.{ℕ, Bool, false, ◌||◌, List, bytes_eq, codes}
use Rattle.ipg_core.specs.declared.grammar.Primitive.{Primitive}
use Rattle.ipg_core.specs.declared.grammar.Primitive.TheVariants.{U8, U16LE, U16BE, U32LE, U32BE, U64LE, U64BE, Bytes}

abbrev pub is_val : List ℕ → Bool
is_val field = bytes_eq field (codes "val")

abbrev pub is_half : List ℕ → Bool
is_half field = bytes_eq field (codes "hi") || bytes_eq field (codes "lo")

-- numbers of at most 32 bits have `val`, those of 64 bits their two halves, raw bytes none
abbrev pub primitive_has : Primitive → List ℕ → Bool
primitive_has U8 field = is_val field
primitive_has U16LE field = is_val field
primitive_has U16BE field = is_val field
primitive_has U32LE field = is_val field
primitive_has U32BE field = is_val field
primitive_has U64LE field = is_half field
primitive_has U64BE field = is_half field
primitive_has Bytes field = false
