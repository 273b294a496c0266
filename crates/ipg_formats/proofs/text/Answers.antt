use Rattle.std.proofs.Common.{refl}
use Rattle.ipg_formats.specs.Text.{text_of, text_len, is_text}
use Rattle.ipg_formats.specs.Sample.{sample_of, sample_len}
use Rattle.ipg_formats.proofs.text.Goals as goal

-- src/lib.rt:25:1
pub returns-in-Elf-clause-value : goal.returns-in-Elf-clause-value
returns-in-Elf-clause-value c = rw c.in-Elf.is refl

-- src/lib.rt:25:1
pub returns-in-Pe-clause-value : goal.returns-in-Pe-clause-value
returns-in-Pe-clause-value c = rw c.in-Pe.is refl

-- src/lib.rt:25:1
pub returns-in-Gif-clause-value : goal.returns-in-Gif-clause-value
returns-in-Gif-clause-value c = rw c.in-Gif.is refl

-- src/lib.rt:25:1
pub returns-in-Pcap-clause-value : goal.returns-in-Pcap-clause-value
returns-in-Pcap-clause-value c = rw c.in-Pcap.is refl
