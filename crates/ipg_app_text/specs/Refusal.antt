-- What is said of a text that has no core grammar, with the place in the text or the term.
use Rattle.std.specs.Prelude.{ℕ, List, ◌∷◌, ◌++◌, codes, decimal}
use Rattle.ipg_read_tokens.specs.declared.fault.ReadFault.{ReadFault}
use Rattle.ipg_read_tokens.specs.declared.fault.ReadFault.TheVariants as read
use Rattle.ipg_read_tokens.specs.declared.fault.Which.{Which}
use Rattle.ipg_read_tokens.specs.declared.fault.Which.TheVariants.{Rules, Alternatives, Terms, Depth}
use Rattle.ipg_names.specs.declared.fault.NameFault.{NameFault}
use Rattle.ipg_names.specs.declared.fault.NameFault.TheVariants as name
use Rattle.ipg_app_text.specs.Said.{Said, refused, out_of_memory}

abbrev pub limit_name : Which → List ℕ
limit_name Rules = codes "rules"
limit_name Alternatives = codes "alternatives"
limit_name Terms = codes "terms"
limit_name Depth = codes "depth"

-- no text reads as want of memory; it is what code may answer beside
abbrev pub fault_said : ReadFault → Said
fault_said read.TooLong = refused (codes "G1 TooLong")
fault_said (read.Lex at) = refused (codes "G2 Lex " ++ decimal at)
fault_said (read.Number at) = refused (codes "G3 Number " ++ decimal at)
fault_said (read.Syntax at) = refused (codes "G4 Syntax " ++ decimal at)
fault_said (read.Limit which at) = refused (codes "G5 Limit " ++ (limit_name which ++ 32 ∷ decimal at))
fault_said read.Memory = out_of_memory

-- no name is at fault for want of memory either
abbrev pub name_said : NameFault → Said
name_said (name.DuplicateRule at) = refused (codes "G6 DuplicateRule " ++ decimal at)
name_said (name.UnknownRule at) = refused (codes "G7 UnknownRule " ++ decimal at)
name_said (name.DuplicateAttr at) = refused (codes "G8 DuplicateAttr " ++ decimal at)
name_said (name.UnknownAttr at) = refused (codes "G9 UnknownAttr " ++ decimal at)
name_said (name.PartAttr at) = refused (codes "G10 PartAttr " ++ decimal at)
name_said (name.NoOccurrence at) = refused (codes "G11 NoOccurrence " ++ decimal at)
name_said name.Memory = out_of_memory

-- a term, by the name of its rule and by number
abbrev pub term_words : List ℕ → (alt term : ℕ) → List ℕ
term_words rule alt term = rule ++ (32 ∷ (decimal alt ++ (32 ∷ decimal term)))

-- the term that has no turn in the order of its alternative
abbrev pub circular : List ℕ → (alt term : ℕ) → Said
circular rule alt term = refused (codes "G12 Circular " ++ term_words rule alt term)

-- the repetition whose items may touch no byte
abbrev pub no_touch : List ℕ → (alt term : ℕ) → Said
no_touch rule alt term = refused (codes "G14 NoTouch " ++ term_words rule alt term)
