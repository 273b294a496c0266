-- The samples of the built-in formats are inputs.
use Rattle.std.proofs.Common.{◌≡◌, ℕ, zero, suc, ◌+◌, ◌*◌, ◌%◌, ◌≤◌, ◌<◌, ◌^◌, refl, subst, arith, List, [], ◌∷◌, ◌++◌, length, length-append, Bool}
use Rattle.std.proofs.Common.{true, false, ◌&&◌, replicate}
use Rattle.std.specs.Prelude.{nat_lt, codes}
use Rattle.std.specs.List.{AllByRecursion}
use Rattle.std.proofs.lemmas.Bool.Decides.{nat_tests}
use Rattle.ipg_core.specs.Grown.{IsInput}
use Rattle.ipg_formats.specs.declared.Kind.{Kind}
use Rattle.ipg_formats.specs.declared.Kind.TheVariants.{Elf, Pe, Gif, Pcap}
use Rattle.ipg_formats.specs.Fields.{le16, le32, le64, be16, be32, each}
use Rattle.ipg_formats.specs.Elf as elf
use Rattle.ipg_formats.specs.Pe as pe
use Rattle.ipg_formats.specs.Gif as gif
use Rattle.ipg_formats.specs.Pcap as pcap
use Rattle.ipg_formats.specs.Sample.{sample_of}

-- so many bytes at most
pub record AreFew (n : ℕ) (bytes : List ℕ) : Type 0 where
  pub size : length bytes ≤ n
  pub small : AllByRecursion (λ b. b < 256) bytes

all_joined : (xs ys : List ℕ) → AllByRecursion (λ b. b < 256) xs → AllByRecursion (λ b. b < 256) ys → AllByRecursion (λ b. b < 256) (xs ++ ys)
all_joined [] ys a b = b
all_joined (x ∷ xs) ys a b = (a.0, all_joined xs ys a.1 b)

infixl 6 ◌⊕◌
◌⊕◌ : {n m : ℕ} {xs ys : List ℕ} → AreFew n xs → AreFew m ys → AreFew (n + m) (xs ++ ys)
◌⊕◌ {n} {m} {xs} {ys} a b = record {
  size = let l = length-append xs ys in let p = a.size in let q = b.size in omega (arith, l, p, q);
  small = all_joined xs ys a.small b.small;
}

-- ---- numbers and bytes that are known

abbrev are_small : List ℕ → Bool
are_small [] = true
are_small (b ∷ bytes) = nat_lt b 256 && are_small bytes

one_small : (b : ℕ) → nat_lt b 256 ≡ true → b < 256
one_small b e = grind (arith, nat_tests)

first_true : (a b : Bool) → (a && b) ≡ true → (a ≡ true) × (b ≡ true)
first_true true b e = (refl, e)
first_true false b e = absurd (cc)

all_small : (bytes : List ℕ) → are_small bytes ≡ true → AllByRecursion (λ b. b < 256) bytes
all_small [] e = tt
all_small (b ∷ bytes) e =
    let both = first_true (nat_lt b 256) (are_small bytes) e in
    (one_small b both.0, all_small bytes both.1)

plain : (bytes : List ℕ) → are_small bytes ≡ true → AreFew (length bytes) bytes
plain bytes e = record { size = omega arith; small = all_small bytes e }

two : (x : ℕ) → AreFew 2 (le16 x)
unfolding le16
two x = record { size = omega arith; small = (omega arith, (omega arith, tt)) }

four : (x : ℕ) → AreFew 4 (le32 x)
unfolding le32
four x = record { size = omega arith; small = (omega arith, (omega arith, (omega arith, (omega arith, tt)))) }

eight : (x : ℕ) → AreFew 8 (le64 x)
unfolding le64
eight x = record {
  size = omega arith;
  small = (omega arith, (omega arith, (omega arith, (omega arith, (omega arith, (omega arith, (omega arith, (omega arith, tt))))))));
}

big_two : (x : ℕ) → AreFew 2 (be16 x)
unfolding be16
big_two x = record { size = omega arith; small = (omega arith, (omega arith, tt)) }

big_four : (x : ℕ) → AreFew 4 (be32 x)
unfolding be32
big_four x = record { size = omega arith; small = (omega arith, (omega arith, (omega arith, (omega arith, tt)))) }

repeated : (n k : ℕ) (f : ℕ → List ℕ) → ((i : ℕ) → AreFew k (f i)) → AreFew (n * k) (each n f)
unfolding each
repeated zero k f few = record { size = omega arith; small = tt }
repeated (suc n) k f few =
    subst (λ m. AreFew m (each n f ++ f n)) (let e : n * k + k ≡ suc n * k = omega arith in e) (repeated n k f few ⊕ few n)

counting : (n : ℕ) → AreFew (n * 1) (each n (λ i. i % 256 ∷ []))
counting n = repeated n 1 (λ i. i % 256 ∷ []) (λ i. record { size = omega arith; small = (omega arith, tt) })

-- ---- ELF

elf_header : (n : ℕ) → AreFew 64 (elf.file_header (elf.header_for n))
unfolding elf.file_header
elf_header n =
    let h = elf.header_for n in
    plain elf.identification refl ⊕ two h.file_type ⊕ two h.machine ⊕ four h.version ⊕ eight h.entry ⊕ eight h.program_table
    ⊕ eight h.section_table ⊕ four h.flags ⊕ two h.header_size ⊕ two h.program_size ⊕ two h.programs ⊕ two h.section_size ⊕ two h.sections
    ⊕ two h.name_section

elf_section : (n i : ℕ) → AreFew 64 (elf.section_header (elf.section_for n i))
unfolding elf.section_header
elf_section n i =
    let h = elf.section_for n i in
    four h.name ⊕ four h.section_type ⊕ eight h.flags ⊕ eight h.address ⊕ eight h.offset ⊕ eight h.size ⊕ four h.link ⊕ four h.info
    ⊕ eight h.alignment ⊕ eight h.entry_size

elf_few : (n : ℕ) → AreFew (64 + n * 64 + n * 1) (elf.elf n)
unfolding elf.elf
elf_few n = elf_header n ⊕ repeated n 64 (λ i. elf.section_header (elf.section_for n i)) (elf_section n) ⊕ counting n

-- ---- PE

dos_header : AreFew 64 (pe.dos_header 64)
unfolding pe.dos_header
dos_header = plain (codes "MZ") refl ⊕ plain (replicate 58 0) refl ⊕ four 64

coff_header : (n : ℕ) → AreFew 24 (pe.coff_header (pe.coff_for n))
unfolding pe.coff_header
coff_header n =
    let h = pe.coff_for n in
    plain (codes "PE") refl ⊕ plain (replicate 2 0) refl ⊕ two h.machine ⊕ two h.sections ⊕ four h.time ⊕ four h.symbol_table ⊕ four h.symbols
    ⊕ two h.optional_size ⊕ two h.flags

optional_header : AreFew 112 (pe.optional_header 523 0)
unfolding pe.optional_header
optional_header = two 523 ⊕ plain (replicate 106 0) refl ⊕ four 0

pe_section : (n i : ℕ) → AreFew 40 (pe.section_header (pe.section_for n i))
unfolding pe.section_header
pe_section n i =
    let h = pe.section_for n i in
    plain (replicate 8 0) refl ⊕ four h.virtual_size ⊕ four h.virtual_address ⊕ four h.raw_size ⊕ four h.raw_offset ⊕ four h.relocation_table
    ⊕ four h.line_table ⊕ two h.relocations ⊕ two h.lines ⊕ four h.flags

pe_few : (n : ℕ) → AreFew (64 + 24 + 112 + n * 40 + n * 1) (pe.pe n)
unfolding pe.pe
pe_few n =
    dos_header ⊕ coff_header n ⊕ optional_header ⊕ repeated n 40 (λ i. pe.section_header (pe.section_for n i)) (pe_section n) ⊕ counting n

-- ---- GIF

screen : AreFew 7 (gif.screen gif.one_pixel)
unfolding gif.screen
screen = two 1 ⊕ two 1 ⊕ plain (0 ∷ 0 ∷ 0 ∷ []) refl

image : AreFew 10 (gif.image gif.whole_screen)
unfolding gif.image
image = plain (0x2c ∷ []) refl ⊕ two 0 ⊕ two 0 ⊕ two 1 ⊕ two 1 ⊕ plain (0 ∷ []) refl

comment : (i : ℕ) → AreFew 5 (gif.comment (i % 256))
comment i = record { size = omega arith; small = (omega arith, (omega arith, (omega arith, (omega arith, (omega arith, tt))))) }

gif_few : (n : ℕ) → AreFew (6 + 7 + n * 5 + 10 + 5 + 1) (gif.gif n)
unfolding gif.gif
gif_few n =
    plain gif.header refl ⊕ screen ⊕ repeated n 5 (λ i. gif.comment (i % 256)) comment ⊕ image ⊕ plain gif.pixels refl ⊕ plain gif.trailer refl

-- ---- captures

capture : AreFew 24 (pcap.file_header pcap.ethernet)
unfolding pcap.file_header
capture =
    let h = pcap.ethernet in
    four h.magic ⊕ two h.major ⊕ two h.minor ⊕ four h.zone ⊕ four h.accuracy ⊕ four h.longest ⊕ four h.link_type

record_few : (i : ℕ) → AreFew 16 (pcap.record_header (pcap.record_for i))
unfolding pcap.record_header
record_few i = let h = pcap.record_for i in four h.seconds ⊕ four h.microseconds ⊕ four h.captured ⊕ four h.original

frame : AreFew 14 (pcap.ethernet_header pcap.frame_for)
unfolding pcap.ethernet_header
frame = let h = pcap.frame_for in plain h.destination refl ⊕ plain h.source refl ⊕ big_two h.ether_type

datagram : (i : ℕ) → AreFew 20 (pcap.ip_header (pcap.datagram_for i))
unfolding pcap.ip_header
datagram i =
    let h = pcap.datagram_for i in
    plain (0x45 ∷ 0 ∷ []) refl ⊕ big_two h.total ⊕ big_two h.identification ⊕ big_two h.fragment ⊕ plain (64 ∷ 17 ∷ []) refl ⊕ big_two h.checksum
    ⊕ plain h.source refl ⊕ plain h.destination refl

ports : AreFew 8 (pcap.udp_header pcap.ports_for)
unfolding pcap.udp_header
ports = let h = pcap.ports_for in big_two h.source ⊕ big_two h.destination ⊕ big_two h.length ⊕ big_two h.checksum

packet : (i : ℕ) → AreFew 62 (pcap.packet i)
unfolding pcap.packet
packet i = record_few i ⊕ frame ⊕ datagram i ⊕ ports ⊕ big_four i

pcap_few : (n : ℕ) → AreFew (24 + n * 62) (pcap.pcap n)
unfolding pcap.pcap
pcap_few n = capture ⊕ repeated n 62 pcap.packet packet

-- ---- each

few_input : (n : ℕ) (bytes : List ℕ) → n ≤ 2 ^ 30 → AreFew n bytes → IsInput bytes
few_input n bytes le few = record { size = let s = few.size in omega (arith, s, le); bytes = few.small }

pub sample_input : (kind : Kind) (n : ℕ) → n ≤ 10000 → IsInput (sample_of kind n)
sample_input Elf n le = few_input _ (elf.elf n) (omega (arith, le)) (elf_few n)
sample_input Pe n le = few_input _ (pe.pe n) (omega (arith, le)) (pe_few n)
sample_input Gif n le = few_input _ (gif.gif n) (omega (arith, le)) (gif_few n)
sample_input Pcap n le = few_input _ (pcap.pcap n) (omega (arith, le)) (pcap_few n)
