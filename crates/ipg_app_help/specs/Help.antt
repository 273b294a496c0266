-- What `help` writes, a text for each topic, and what `version` and `formats` do.
use Rattle.std.specs.Prelude.{ℕ, List, [], ◌∷◌, ◌++◌, codes, flat_map, bytes_eq, Option, None, Some, if◌then◌else◌}
use Rattle.std.specs.Option.{option_map}
use Rattle.ipg_app_help.specs.declared.topic.Topic.{Topic}
use Rattle.ipg_app_help.specs.declared.topic.Topic.TheVariants as topic

-- the topic of a command's name
abbrev pub topic_by : List ℕ → Option Topic
topic_by name = if bytes_eq name (codes "parse") then Some topic.Parse
    else (if bytes_eq name (codes "view") then Some topic.View
    else (if bytes_eq name (codes "json") then Some topic.Json
    else (if bytes_eq name (codes "query") then Some topic.Query
    else (if bytes_eq name (codes "check") then Some topic.Check
    else (if bytes_eq name (codes "explain") then Some topic.Explain
    else (if bytes_eq name (codes "fmt") then Some topic.Fmt
    else (if bytes_eq name (codes "cert") then Some topic.Cert
    else (if bytes_eq name (codes "verify") then Some topic.Verify
    else (if bytes_eq name (codes "table") then Some topic.Table
    else (if bytes_eq name (codes "load") then Some topic.Load
    else (if bytes_eq name (codes "cover") then Some topic.Cover
    else (if bytes_eq name (codes "rebuild") then Some topic.Rebuild
    else (if bytes_eq name (codes "edit") then Some topic.Edit
    else (if bytes_eq name (codes "trial") then Some topic.Trial
    else (if bytes_eq name (codes "formats") then Some topic.Formats
    else (if bytes_eq name (codes "help") then Some topic.Help
    else (if bytes_eq name (codes "version") then Some topic.Version
    else None)))))))))))))))))

-- the list of commands, where none is named
abbrev pub topic_of : Option (List ℕ) → Option Topic
topic_of None = Some topic.Commands
topic_of (Some name) = topic_by name

-- ---- the lines

abbrev pub lines_of : Topic → List (List ℕ)
lines_of topic.Commands =
    codes "ipg reads binary files by grammars, and answers what the grammar means." ∷
    [] ∷
    codes "  parse G FILE         the tree of a file" ∷
    codes "  view G FILE [PATH]   the tree beside the bytes, for a terminal" ∷
    codes "  json G FILE          the tree as one JSON text" ∷
    codes "  query G FILE PATH    parts and values of the tree" ∷
    codes "  check G              whether parsing by the grammar always ends" ∷
    codes "  explain G [FILE]     where and why a grammar is refused, or a file fails" ∷
    codes "  fmt G                the grammar's text, laid out anew" ∷
    codes "  cert G               a certificate that parsing ends" ∷
    codes "  verify G CERT        whether a certificate proves the grammar" ∷
    codes "  table G              the checked grammar as a table file" ∷
    codes "  load T FILE          the tree of a file by a table file" ∷
    codes "  cover G              whether the grammar leaves no byte out" ∷
    codes "  rebuild G FILE       the file again, from the leaves of its tree" ∷
    codes "  edit G FILE SCRIPT   answers before and after each edit of a script" ∷
    codes "  trial KIND N         a built-in grammar on a sample" ∷
    codes "  formats              which formats have a grammar" ∷
    codes "  help [COMMAND]       this list, or what a command does" ∷
    codes "  version              which program this is" ∷
    [] ∷
    codes "  ipg parse @elf /bin/true" ∷
    []
lines_of topic.Parse =
    codes "ipg parse G FILE [--memo on|off] [--arena MIB]" ∷
    [] ∷
    codes "Writes the tree of FILE by the grammar G, a line for each node and leaf." ∷
    [] ∷
    codes "  G      the file of a grammar, or @ and the name of one that `ipg formats` lists, as @elf" ∷
    codes "  FILE   the file to read, of at most 2^30 bytes; - is the standard input" ∷
    codes "  --memo off    remembers no answers of calls: less memory, maybe more time" ∷
    codes "  --arena MIB   the memory of the tree, 1 to 4096 MiB; else 512" ∷
    [] ∷
    codes "Status 0, or 1 where there is no tree (`no parse`), 3 where a value leaves 64 bits (`range`)." ∷
    [] ∷
    codes "  ipg parse @elf /bin/true" ∷
    []
lines_of topic.View =
    codes "ipg view G FILE [PATH] [--memo on|off] [--arena MIB]" ∷
    [] ∷
    codes "Writes the tree of FILE beside its bytes, for a terminal, and the bytes that no leaf has." ∷
    codes "With PATH it writes only what that picks, and all that lies in it." ∷
    [] ∷
    codes "  G      the file of a grammar, or @ and the name of one that `ipg formats` lists, as @elf" ∷
    codes "  FILE   the file to read, of at most 2^30 bytes; - is the standard input" ∷
    codes "  PATH   as query takes it" ∷
    codes "  --memo off    remembers no answers of calls: less memory, maybe more time" ∷
    codes "  --arena MIB   the memory of the tree, 1 to 4096 MiB; else 512" ∷
    [] ∷
    codes "  ipg view @gif picture.gif" ∷
    []
lines_of topic.Json =
    codes "ipg json G FILE [--memo on|off] [--arena MIB]" ∷
    [] ∷
    codes "Writes the tree of FILE as one JSON text. It says what the lines of parse say." ∷
    [] ∷
    codes "  G      the file of a grammar, or @ and the name of one that `ipg formats` lists, as @elf" ∷
    codes "  FILE   the file to read, of at most 2^30 bytes; - is the standard input" ∷
    codes "  --memo off    remembers no answers of calls: less memory, maybe more time" ∷
    codes "  --arena MIB   the memory of the tree, 1 to 4096 MiB; else 512" ∷
    [] ∷
    codes "  ipg json @gif picture.gif" ∷
    []
lines_of topic.Query =
    codes "ipg query G FILE PATH" ∷
    [] ∷
    codes "Writes what PATH picks of the tree of FILE, a line for each part or value." ∷
    [] ∷
    codes "  G      the file of a grammar, or @ and the name of one that `ipg formats` lists, as @elf" ∷
    codes "  FILE   the file to read, of at most 2^30 bytes; - is the standard input" ∷
    codes "  PATH   names of rules behind one another by /, as Head, Blocks/Block(0), **/Sub, Screen.width" ∷
    [] ∷
    codes "  ipg query @elf /bin/true Head.shnum" ∷
    []
lines_of topic.Check =
    codes "ipg check G" ∷
    [] ∷
    codes "Writes `accepted` where parsing by the grammar always ends, else the first reason against it." ∷
    [] ∷
    codes "  G      the file of a grammar, or @ and the name of one that `ipg formats` lists, as @elf" ∷
    [] ∷
    codes "Status 0, or 2 where the grammar is refused. `ipg explain G` says more." ∷
    [] ∷
    codes "  ipg check @gif" ∷
    []
lines_of topic.Explain =
    codes "ipg explain G [FILE] [--arena MIB]" ∷
    [] ∷
    codes "Writes `accepted`, or where and why the grammar is refused: the lines of its text, and what can be done." ∷
    codes "With FILE it parses that, and writes what comes of it and where the parse failed furthest:" ∷
    codes "what was wanted there, what stands there, and the calls that led there." ∷
    [] ∷
    codes "  G      the file of a grammar, or @ and the name of one that `ipg formats` lists, as @elf" ∷
    codes "  FILE   the file to read, of at most 2^30 bytes; - is the standard input" ∷
    codes "  --arena MIB   the memory of that parse, 1 to 4096 MiB; else 512" ∷
    [] ∷
    codes "Status 0, or 2 where the grammar is refused; with FILE that of parse." ∷
    [] ∷
    codes "  ipg explain my.ipg" ∷
    []
lines_of topic.Fmt =
    codes "ipg fmt G" ∷
    [] ∷
    codes "Writes the text of the grammar laid out anew. Comments go, and numbers become decimal." ∷
    [] ∷
    codes "  G      the file of a grammar, or @ and the name of one that `ipg formats` lists, as @elf" ∷
    [] ∷
    codes "  ipg fmt my.ipg" ∷
    []
lines_of topic.Cert =
    codes "ipg cert G" ∷
    [] ∷
    codes "Writes a certificate that parsing by the grammar ends, which any checker can read." ∷
    [] ∷
    codes "  G      the file of a grammar, or @ and the name of one that `ipg formats` lists, as @elf" ∷
    [] ∷
    codes "  ipg cert my.ipg > my.cert" ∷
    []
lines_of topic.Verify =
    codes "ipg verify G CERT" ∷
    [] ∷
    codes "Writes `verified` where the certificate proves the grammar, else what is wrong with it." ∷
    [] ∷
    codes "  G      the file of a grammar, or @ and the name of one that `ipg formats` lists, as @elf" ∷
    codes "  CERT   a file with a certificate" ∷
    [] ∷
    codes "  ipg verify my.ipg my.cert" ∷
    []
lines_of topic.Table =
    codes "ipg table G" ∷
    [] ∷
    codes "Writes the checked grammar with its certificate as a table file, for load." ∷
    [] ∷
    codes "  G      the file of a grammar, or @ and the name of one that `ipg formats` lists, as @elf" ∷
    [] ∷
    codes "  ipg table my.ipg > my.table" ∷
    []
lines_of topic.Load =
    codes "ipg load T FILE" ∷
    [] ∷
    codes "Checks the table file T, and writes the tree of FILE by the grammar that it holds." ∷
    [] ∷
    codes "  T      a table file, of whatever source" ∷
    codes "  FILE   the file to read, of at most 2^30 bytes; - is the standard input" ∷
    [] ∷
    codes "  ipg load my.table data.bin" ∷
    []
lines_of topic.Cover =
    codes "ipg cover G" ∷
    [] ∷
    codes "Writes `covered` where the leaves of each tree hold all bytes of its file, else where one may be missing." ∷
    [] ∷
    codes "  G      the file of a grammar, or @ and the name of one that `ipg formats` lists, as @elf" ∷
    [] ∷
    codes "  ipg cover @gif" ∷
    []
lines_of topic.Rebuild =
    codes "ipg rebuild G FILE" ∷
    [] ∷
    codes "Writes the bytes that the leaves of the tree of FILE put back, where they leave none out." ∷
    [] ∷
    codes "  G      the file of a grammar, or @ and the name of one that `ipg formats` lists, as @elf" ∷
    codes "  FILE   the file to read, of at most 2^30 bytes; - is the standard input" ∷
    [] ∷
    codes "  ipg rebuild @gif picture.gif > same.gif" ∷
    []
lines_of topic.Edit =
    codes "ipg edit G FILE SCRIPT" ∷
    [] ∷
    codes "Writes the answer on FILE before the first edit and after each, with how much had to run anew, and the last tree." ∷
    [] ∷
    codes "  G      the file of a grammar, or @ and the name of one that `ipg formats` lists, as @elf" ∷
    codes "  FILE   the file to read, of at most 2^30 bytes; - is the standard input" ∷
    codes "  SCRIPT   edits, a line each: the place, how many bytes go, and the new ones in hex, or - for none" ∷
    [] ∷
    codes "  ipg edit @gif picture.gif edits.txt" ∷
    []
lines_of topic.Trial =
    codes "ipg trial KIND N" ∷
    [] ∷
    codes "Parses a sample of a format by its built-in grammar, and writes how large its tree is." ∷
    [] ∷
    codes "  KIND   elf, pe, gif or pcap" ∷
    codes "  N      how many sections, comments or packets the sample has, 0 to 10000" ∷
    [] ∷
    codes "  ipg trial gif 100" ∷
    []
lines_of topic.Formats =
    codes "ipg formats" ∷
    [] ∷
    codes "Lists the formats that have a grammar: those that are built in, then those that are installed." ∷
    codes "Such a name is read as @NAME wherever a grammar is, unless a file is named so." ∷
    [] ∷
    codes "Grammars lie in the folder that IPG_FORMATS names, else in share/ipg/formats beside the folder of the program." ∷
    [] ∷
    codes "  ipg formats" ∷
    []
lines_of topic.Help =
    codes "ipg help [COMMAND]" ∷
    [] ∷
    codes "Writes the list of commands, or what a command does, its words, and an example." ∷
    [] ∷
    codes "  ipg help parse" ∷
    []
lines_of topic.Version =
    codes "ipg version" ∷
    [] ∷
    codes "Writes the version of the program, and the toolchain that it was proved with." ∷
    [] ∷
    codes "  ipg version" ∷
    []

-- what `formats` says of the grammars that are built in
abbrev pub built_in : List (List ℕ)
built_in =
    codes "@elf            ELF programs, libraries and object files: heads, segments, sections, symbols" ∷
    codes "@pe             programs and libraries of Windows (PE): heads and sections" ∷
    codes "@gif            GIF images: screen, colours, frames, extensions" ∷
    codes "@pcap           captured packets (pcap): Ethernet, IPv4, ICMP, UDP, TCP" ∷
    []

-- ---- the texts

-- each line ends in a line feed
abbrev pub text_with : List (List ℕ) → List ℕ
text_with lines = flat_map (λ line. line ++ 10 ∷ []) lines

abbrev pub text_of : Topic → List ℕ
text_of topic = text_with (lines_of topic)

abbrev pub built_in_text : List ℕ
built_in_text = text_with built_in

-- the text of a topic; none where the name is no command's
abbrev pub help_of : Option (List ℕ) → Option (List ℕ)
help_of name = option_map text_of (topic_of name)

-- the program, and what it was proved with
abbrev pub version_text : List ℕ
version_text = codes "ipg 0.1.0" ++ 10 ∷ (codes "proved with rattle-kit-13f logic dac8208d650f15bf" ++ 10 ∷ [])
