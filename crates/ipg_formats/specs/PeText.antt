-- The text of the grammar `@pe`, line by line.
use Rattle.std.specs.Prelude.{ℕ, List, [], ◌∷◌, codes}

abbrev pub pe_lines : List (List ℕ)
pe_lines =
    codes "Pe -> \"MZ\"[0, 2] U32LE[60, 64] {pe = U32LE.val} \"PE\\x00\\x00\"[pe, pe + 4]" ∷
    codes "  Coff[pe + 4, pe + 24] Opt[pe + 24, pe + 24 + Coff.optsize]" ∷
    codes "  {tab = pe + 24 + Coff.optsize} {len = EOI}" ∷
    codes "  for i = 0 to Coff.sections do Sect[tab + 40 * i, tab + 40 * i + 40]" ∷
    codes "  for i = 0 to Coff.sections do Raw[Sect(i).from, Sect(i).to_]" ∷
    codes "  where {" ∷
    codes "    Sect -> Bytes[8] U32LE {vsize = U32LE.val} U32LE {vaddr = U32LE.val}" ∷
    codes "      U32LE {rawsize = U32LE.val} U32LE {rawptr = U32LE.val} U32LE U32LE U16LE U16LE" ∷
    codes "      U32LE {flags = U32LE.val} {ok = rawptr + rawsize <= len}" ∷
    codes "      {from = ok ? rawptr : 0} {to_ = ok ? rawptr + rawsize : 0} ;" ∷
    codes "  } ;" ∷
    codes "Coff -> U16LE {machine = U16LE.val} U16LE {sections = U16LE.val} U32LE {time = U32LE.val}" ∷
    codes "  U32LE {symptr = U32LE.val} U32LE {symcount = U32LE.val}" ∷
    codes "  U16LE {optsize = U16LE.val} U16LE {flags = U16LE.val} ;" ∷
    codes "Opt -> U16LE {magic = U16LE.val} ?(magic == 0x10b || magic == 0x20b)" ∷
    codes "  {base = magic == 0x10b ? 96 : 112} Bytes[2, base - 4] U32LE[base - 4, base]" ∷
    codes "  {dirs = U32LE.val} {shown = dirs <= (EOI - base) / 8 ? dirs : (EOI - base) / 8}" ∷
    codes "  for i = 0 to shown do Dir[base + 8 * i, base + 8 * i + 8] ;" ∷
    codes "Dir -> U32LE {addr = U32LE.val} U32LE {size = U32LE.val} ;" ∷
    codes "Raw -> Bytes ;" ∷
    []
