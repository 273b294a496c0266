-- The text of each built-in grammar.
use Rattle.std.specs.Prelude.{ℕ, List, [], ◌∷◌, ◌++◌, flat_map, Bool, false, ◌&&◌, nat_lt, ◌==◌}
use Rattle.ipg_formats.specs.declared.Kind.{Kind}
use Rattle.ipg_formats.specs.declared.Kind.TheVariants.{Elf, Pe, Gif, Pcap}
use Rattle.ipg_formats.specs.ElfText.{elf_lines}
use Rattle.ipg_formats.specs.PeText.{pe_lines}
use Rattle.ipg_formats.specs.GifText.{gif_lines}
use Rattle.ipg_formats.specs.PcapText.{pcap_lines}

abbrev pub lines_of : Kind → List (List ℕ)
lines_of Elf = elf_lines
lines_of Pe = pe_lines
lines_of Gif = gif_lines
lines_of Pcap = pcap_lines

-- each line ends in a line feed
abbrev pub text_of : Kind → List ℕ
text_of kind = flat_map (λ line. line ++ 10 ∷ []) (lines_of kind)

-- how many bytes the text has
abbrev pub text_len : Kind → ℕ
text_len Elf = 2218
text_len Pe = 1187
text_len Gif = 719
text_len Pcap = 1882

-- every byte is plain ASCII, and the last one is a line feed
abbrev pub is_text : List ℕ → Bool
is_text [] = false
is_text (b ∷ []) = b == 10
is_text (b ∷ c ∷ bytes) = nat_lt b 128 && is_text (c ∷ bytes)
