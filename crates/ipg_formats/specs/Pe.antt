-- A PE image of 64 bits: the old header, the COFF header, the optional header, the section table,
-- and the sections, of one byte each.
use Rattle.std.specs.Prelude.{ℕ, ◌+◌, ◌*◌, List, ◌++◌, codes, replicate}
use Rattle.ipg_formats.specs.Fields.{le16, le32, each, counters}
use Rattle.ipg_formats.specs.declared.samples.pe.CoffHeader.{CoffHeader}
use Rattle.ipg_formats.specs.declared.samples.pe.SectionHeader.{SectionHeader}

-- the old header, of which the place of the new one is said
unfoldable pub dos_header : ℕ → List ℕ
dos_header new = codes "MZ" ++ replicate 58 0 ++ le32 new

unfoldable pub coff_header : CoffHeader → List ℕ
coff_header h = codes "PE" ++ replicate 2 0
    ++ le16 h.machine ++ le16 h.sections ++ le32 h.time
    ++ le32 h.symbol_table ++ le32 h.symbols ++ le16 h.optional_size ++ le16 h.flags

-- of the optional header its magic number and the count of data directories are said
unfoldable pub optional_header : (magic : ℕ) (directories : ℕ) → List ℕ
optional_header magic directories = le16 magic ++ replicate 106 0 ++ le32 directories

-- the section's name is empty
unfoldable pub section_header : SectionHeader → List ℕ
section_header h = replicate 8 0 ++ le32 h.virtual_size ++ le32 h.virtual_address
    ++ le32 h.raw_size ++ le32 h.raw_offset ++ le32 h.relocation_table ++ le32 h.line_table
    ++ le16 h.relocations ++ le16 h.lines ++ le32 h.flags

-- for x86-64, with n sections, no symbols and an optional header of 112 bytes
abbrev pub coff_for : ℕ → CoffHeader
coff_for n = record {
  machine = 0x8664;
  sections = n;
  time = 0;
  symbol_table = 0;
  symbols = 0;
  optional_size = 112;
  flags = 0;
}

-- section i of n: one byte, on a page of its own, behind all headers
abbrev pub section_for : ℕ → ℕ → SectionHeader
section_for n i = record {
  virtual_size = 1;
  virtual_address = 4096 * (i + 1);
  raw_size = 1;
  raw_offset = 200 + 40 * n + i;
  relocation_table = 0;
  line_table = 0;
  relocations = 0;
  lines = 0;
  flags = 0;
}

abbrev pub section_table : ℕ → List ℕ
section_table n = each n (λ i. section_header (section_for n i))

unfoldable pub pe : ℕ → List ℕ
pe n = dos_header 64 ++ coff_header (coff_for n) ++ optional_header 523 0
    ++ section_table n ++ counters n
