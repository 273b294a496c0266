-- The names of the built-in grammars.
use Rattle.std.specs.Prelude.{ℕ, List, codes, bytes_eq, Option, Some, None, if◌then◌else◌}
use Rattle.ipg_formats.specs.declared.Kind.{Kind}
use Rattle.ipg_formats.specs.declared.Kind.TheVariants.{Elf, Pe, Gif, Pcap}

abbrev pub kind_of : List ℕ → Option Kind
kind_of name = if bytes_eq name (codes "@elf") then Some Elf
    else (if bytes_eq name (codes "@pe") then Some Pe
    else (if bytes_eq name (codes "@gif") then Some Gif
    else (if bytes_eq name (codes "@pcap") then Some Pcap
    else None)))
