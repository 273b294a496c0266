-- How long the samples are.
use Rattle.std.proofs.Common.{◌≡◌, ℕ, ◌+◌, ◌*◌, ◌%◌, ◌∷◌, [], length, refl, arith, length-append}
use Rattle.ipg_formats.specs.Fields.{le16, le32, le64, be16, be32}
use Rattle.ipg_formats.specs.Elf as elf
use Rattle.ipg_formats.specs.Pe as pe
use Rattle.ipg_formats.specs.Gif as gif
use Rattle.ipg_formats.specs.Pcap as pcap
use Rattle.ipg_formats.specs.Sample.{sample_of, sample_len}
use Rattle.ipg_formats.specs.declared.Kind.{Kind}
use Rattle.ipg_formats.specs.declared.Kind.TheVariants.{Elf, Pe, Gif, Pcap}
use Rattle.ipg_formats.proofs.EachLemmas.{length-each}

length-elf : (n : ℕ) → length (elf.elf n) ≡ 64 + 65 * n
unfolding elf.elf elf.file_header elf.section_header le16 le32 le64
length-elf n = rw (
  length-append,
  length-each n 64 (λ i. elf.section_header (elf.section_for n i)) (λ i. refl),
  length-each n 1 (λ i. i % 256 ∷ []) (λ i. refl),
) (omega arith)

length-pe : (n : ℕ) → length (pe.pe n) ≡ 200 + 41 * n
unfolding pe.pe pe.dos_header pe.coff_header pe.optional_header pe.section_header le16 le32
length-pe n = rw (
  length-append,
  length-each n 40 (λ i. pe.section_header (pe.section_for n i)) (λ i. refl),
  length-each n 1 (λ i. i % 256 ∷ []) (λ i. refl),
) (omega arith)

length-gif : (n : ℕ) → length (gif.gif n) ≡ 29 + 5 * n
unfolding gif.gif gif.screen gif.image le16
length-gif n = rw (length-append, length-append, length-append, length-each n 5 (λ i. gif.comment (i % 256)) (λ i. refl)) (omega arith)

length-packet : (i : ℕ) → length (pcap.packet i) ≡ 62
unfolding pcap.packet pcap.record_header pcap.ethernet_header pcap.ip_header pcap.udp_header le32 be16 be32
length-packet i = refl

length-pcap : (n : ℕ) → length (pcap.pcap n) ≡ 24 + 62 * n
unfolding pcap.pcap pcap.file_header le16 le32
length-pcap n = rw (length-each n 62 pcap.packet length-packet) (omega arith)

pub length-sample : (kind : Kind) (n : ℕ) → length (sample_of kind n) ≡ sample_len kind n
length-sample Elf n = length-elf n
length-sample Pe n = length-pe n
length-sample Gif n = length-gif n
length-sample Pcap n = length-pcap n
