-- The text of the grammar `@elf`, line by line.
use Rattle.std.specs.Prelude.{ℕ, List, [], ◌∷◌, codes}

abbrev pub elf_lines : List (List ℕ)
elf_lines =
    codes "Elf -> \"\\x7fELF\"[0, 4] Id[4, 16] {le = Id.order == 1} {c64 = Id.class == 2} {len = EOI}" ∷
    codes "  Head[16, c64 ? 64 : 52]" ∷
    codes "  for i = 0 to Head.phnum do Ph[Head.phoff + i * Head.phsize, Head.phoff + (i + 1) * Head.phsize]" ∷
    codes "  for i = 0 to Head.shnum do Sh[Head.shoff + i * Head.shsize, Head.shoff + (i + 1) * Head.shsize]" ∷
    codes "  for i = 0 to Head.shnum do Raw[Sh(i).rf, Sh(i).rt]" ∷
    codes "  for i = 0 to Head.shnum do Syms[Sh(i).sf, Sh(i).st]" ∷
    codes "  where {" ∷
    codes "    Half -> ?(le) U16LE {val = U16LE.val} / U16BE {val = U16BE.val} ;" ∷
    codes "    Word -> ?(le) U32LE {val = U32LE.val} / U32BE {val = U32BE.val} ;" ∷
    codes "    Addr -> ?(c64 == 0) Word {hi = 0} {lo = Word.val}" ∷
    codes "      / ?(le) U64LE {hi = U64LE.hi} {lo = U64LE.lo}" ∷
    codes "      / U64BE {hi = U64BE.hi} {lo = U64BE.lo} ;" ∷
    codes "    Head -> Half {type = Half.val} Half {machine = Half.val} Word {version = Word.val}" ∷
    codes "      Addr {entryhi = Addr.hi} {entrylo = Addr.lo}" ∷
    codes "      Addr ?(Addr.hi == 0) {phoff = Addr.lo} Addr ?(Addr.hi == 0) {shoff = Addr.lo}" ∷
    codes "      Word {flags = Word.val} Half {ehsize = Half.val}" ∷
    codes "      Half {phsize = Half.val} Half {phnum = Half.val}" ∷
    codes "      Half {shsize = Half.val} Half {shnum = Half.val} Half {shstrndx = Half.val} ;" ∷
    codes "    Ph -> ?(c64) Word {type = Word.val} Word {flags = Word.val} Addr Addr Addr Addr Addr Addr" ∷
    codes "      / ?(c64 == 0) Word {type = Word.val} Addr Addr Addr Addr Addr Word {flags = Word.val} Word ;" ∷
    codes "    Sh -> Word {name = Word.val} Word {type = Word.val} Addr Addr" ∷
    codes "      Addr {oh = Addr.hi} {off = Addr.lo} Addr {sh = Addr.hi} {size = Addr.lo}" ∷
    codes "      Word Word Addr Addr" ∷
    codes "      {ok = type != 0 && type != 8 && oh == 0 && sh == 0 && off + size <= len}" ∷
    codes "      {sym = ok && type == 2}" ∷
    codes "      {rf = ok && !sym ? off : 0} {rt = ok && !sym ? off + size : 0}" ∷
    codes "      {sf = sym ? off : 0} {st = sym ? off + size : 0} ;" ∷
    codes "    Syms -> {w = c64 ? 24 : 16} {n = EOI / w} for i = 0 to n do Sym[i * w, (i + 1) * w] ;" ∷
    codes "    Sym -> ?(c64) Word {name = Word.val} U8 {info = U8.val} U8 Half {shndx = Half.val} Addr Addr" ∷
    codes "      / ?(c64 == 0) Word {name = Word.val} Addr Addr U8 {info = U8.val} U8 Half {shndx = Half.val} ;" ∷
    codes "  } ;" ∷
    codes "Id -> U8 {class = U8.val} ?(class == 1 || class == 2)" ∷
    codes "  U8 {order = U8.val} ?(order == 1 || order == 2)" ∷
    codes "  U8 ?(U8.val == 1) U8 {osabi = U8.val} U8 {abiver = U8.val} Bytes ;" ∷
    codes "Raw -> Bytes ;" ∷
    []
