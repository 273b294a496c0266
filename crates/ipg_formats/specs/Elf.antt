-- An ELF file of 64 bits, the low byte first: the file header, a header for each section, and the
-- sections, of one byte each.
use Rattle.std.specs.Prelude.{ℕ, zero, suc, ◌+◌, ◌*◌, List, [], ◌∷◌, ◌++◌, replicate}
use Rattle.ipg_formats.specs.Fields.{le16, le32, le64, each, counters}
use Rattle.ipg_formats.specs.declared.samples.elf.FileHeader.{FileHeader}
use Rattle.ipg_formats.specs.declared.samples.elf.SectionHeader.{SectionHeader}

-- the magic number, 64 bits, low byte first, version 1, and padding
abbrev pub identification : List ℕ
identification = (0x7f ∷ 0x45 ∷ 0x4c ∷ 0x46 ∷ 2 ∷ 1 ∷ 1 ∷ []) ++ replicate 9 0

unfoldable pub file_header : FileHeader → List ℕ
file_header h = identification
    ++ le16 h.file_type ++ le16 h.machine ++ le32 h.version
    ++ le64 h.entry ++ le64 h.program_table ++ le64 h.section_table
    ++ le32 h.flags ++ le16 h.header_size
    ++ le16 h.program_size ++ le16 h.programs
    ++ le16 h.section_size ++ le16 h.sections ++ le16 h.name_section

unfoldable pub section_header : SectionHeader → List ℕ
section_header h = le32 h.name ++ le32 h.section_type ++ le64 h.flags
    ++ le64 h.address ++ le64 h.offset ++ le64 h.size
    ++ le32 h.link ++ le32 h.info ++ le64 h.alignment ++ le64 h.entry_size

-- where the section headers stand: behind the file header, or 0 where there are none
abbrev pub table_at : ℕ → ℕ
table_at zero = 0
table_at (suc _) = 64

-- an executable for x86-64 with n sections and no program headers
abbrev pub header_for : ℕ → FileHeader
header_for n = record {
  file_type = 2;
  machine = 62;
  version = 1;
  entry = 0;
  program_table = 0;
  section_table = table_at n;
  flags = 0;
  header_size = 64;
  program_size = 0;
  programs = 0;
  section_size = 64;
  sections = n;
  name_section = 0;
}

-- section i of n holds program data, one byte behind all headers
abbrev pub section_for : ℕ → ℕ → SectionHeader
section_for n i = record {
  name = i;
  section_type = 1;
  flags = 0;
  address = 0;
  offset = 64 + 64 * n + i;
  size = 1;
  link = 0;
  info = 0;
  alignment = 1;
  entry_size = 0;
}

abbrev pub section_table : ℕ → List ℕ
section_table n = each n (λ i. section_header (section_for n i))

unfoldable pub elf : ℕ → List ℕ
elf n = file_header (header_for n) ++ section_table n ++ counters n
