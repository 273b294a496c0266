-- A trial of a built-in grammar on a sample of its format.
use Rattle.std.specs.Prelude.{◌≡◌, ℕ, ◌++◌, List, length, codes, decimal, bytes_eq, nat_le, Result, Ok, Err, Option, None, Some, if◌then◌else◌}
use Rattle.ipg_core.specs.Grammar.{Grammar}
use Rattle.ipg_core.specs.Tree.{Tree}
use Rattle.ipg_core.specs.Run.{Stop, NoTree, OutOfRange, Deep}
use Rattle.ipg_core.specs.Meaning.{Means}
use Rattle.ipg_formats.specs.declared.Kind.{Kind}
use Rattle.ipg_formats.specs.declared.Kind.TheVariants.{Elf, Pe, Gif, Pcap}
use Rattle.ipg_formats.specs.Sample.{sample_of}
use Rattle.ipg_app_tree.specs.declared.measuring.Size.{Size}
use Rattle.ipg_app_tree.specs.Measured.{IsSize}
use Rattle.ipg_app_text.specs.Said.{Said, done_line, usage, no_parse, range}

-- a value, or usage
abbrev pub or_usage : {A : Type 0} → Option A → Result A Said
or_usage (Some a) = Ok a
or_usage None = Err usage

-- the format with this name
abbrev pub kind_by : List ℕ → Result Kind Said
kind_by name = if bytes_eq name (codes "elf") then Ok Elf
    else (if bytes_eq name (codes "pe") then Ok Pe
    else (if bytes_eq name (codes "gif") then Ok Gif
    else (if bytes_eq name (codes "pcap") then Ok Pcap
    else Err usage)))

abbrev pub max_parts : ℕ
max_parts = 10000

abbrev pub parts_in : ℕ → Result ℕ Said
parts_in n = if nat_le n max_parts then Ok n else Err usage

-- the format, how many parts the sample has and how many bytes, the lines of its tree, and the bodies that ran for it
abbrev pub size_words : List ℕ → ℕ → ℕ → Size → List ℕ
size_words name n bytes size =
    codes "kind=" ++ name ++ codes " n=" ++ decimal n ++ codes " bytes=" ++ decimal bytes
    ++ codes " nodes=" ++ decimal size.lines ++ codes " bodies=" ++ decimal size.bodies

-- what is said of the sample's tree, or that it has none
abbrev pub IsTried : List ℕ → Kind → ℕ → Grammar → Result Tree Stop → Said → Type 0
IsTried name kind n g (Ok tree) said =
    (size : Size) × IsSize g (sample_of kind n) tree size × (said ≡ done_line (size_words name n (length (sample_of kind n)) size))
IsTried name kind n g (Err NoTree) said = said ≡ no_parse
IsTried name kind n g (Err OutOfRange) said = said ≡ range
IsTried name kind n g (Err Deep) said = ⊥

pub record Tries (name : List ℕ) (kind : Kind) (n : ℕ) (g : Grammar) (said : Said) : Type 0 where
  pub answer : Result Tree Stop
  pub means : Means g (sample_of kind n) answer
  pub is : IsTried name kind n g answer said
