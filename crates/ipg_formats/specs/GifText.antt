-- The text of the grammar `@gif`, line by line.
use Rattle.std.specs.Prelude.{ℕ, List, [], ◌∷◌, codes}

abbrev pub gif_lines : List (List ℕ)
gif_lines =
    codes "Gif -> Sig[0, 6] Screen[6, 13] Table[13, 13 + Screen.gct] Blocks[13 + Screen.gct, EOI]" ∷
    codes "  Rest[Blocks.end, EOI] ;" ∷
    codes "Sig -> \"GIF87a\" / \"GIF89a\" ;" ∷
    codes "Screen -> U16LE {width = U16LE.val} U16LE {height = U16LE.val} U8 {flags = U8.val} U8 U8" ∷
    codes "  {gct = flags >= 128 ? 3 * (1 << ((flags & 7) + 1)) : 0} ;" ∷
    codes "Table -> Bytes ;" ∷
    codes "Blocks -> many Block \"\\x3b\" ;" ∷
    codes "Block -> Ext / Image ;" ∷
    codes "Ext -> \"\\x21\" U8 {label = U8.val} Subs ;" ∷
    codes "Image -> \"\\x2c\" U16LE {left = U16LE.val} U16LE {top = U16LE.val}" ∷
    codes "  U16LE {width = U16LE.val} U16LE {height = U16LE.val} U8 {flags = U8.val}" ∷
    codes "  {lct = flags >= 128 ? 3 * (1 << ((flags & 7) + 1)) : 0} Bytes[lct] U8 {code = U8.val} Subs ;" ∷
    codes "Subs -> many Sub \"\\x00\" ;" ∷
    codes "Sub -> U8 ?(U8.val > 0) Bytes[U8.val] ;" ∷
    codes "Rest -> Bytes ;" ∷
    []
