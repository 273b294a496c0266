-- A sample of each format with n sections, comments or packets.
use Rattle.std.specs.Prelude.{ℕ, ◌+◌, ◌*◌, List}
use Rattle.ipg_formats.specs.Elf.{elf}
use Rattle.ipg_formats.specs.Pe.{pe}
use Rattle.ipg_formats.specs.Gif.{gif}
use Rattle.ipg_formats.specs.Pcap.{pcap}
use Rattle.ipg_formats.specs.declared.Kind.{Kind}
use Rattle.ipg_formats.specs.declared.Kind.TheVariants.{Elf, Pe, Gif, Pcap}

abbrev pub sample_of : Kind → ℕ → List ℕ
sample_of Elf n = elf n
sample_of Pe n = pe n
sample_of Gif n = gif n
sample_of Pcap n = pcap n

-- how many bytes it has
abbrev pub sample_len : Kind → ℕ → ℕ
sample_len Elf n = 64 + 65 * n
sample_len Pe n = 200 + 41 * n
sample_len Gif n = 29 + 5 * n
sample_len Pcap n = 24 + 62 * n
