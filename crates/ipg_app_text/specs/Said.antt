-- What the program says: a status, and the text that goes with it.
use Rattle.std.specs.Prelude.{ℕ, List, [], ◌∷◌, ◌++◌, codes}
use Rattle.ipg_app_text.specs.declared.status.Status.{Status}
use Rattle.ipg_app_text.specs.declared.status.Status.TheVariants as status

pub record Said : Type 0 where
  pub status : Status
  pub text : List ℕ

-- a command's own text
abbrev pub done : List ℕ → Said
done text = record { status = status.Done; text = text }

-- a status with a line of its own
abbrev pub line_said : Status → List ℕ → Said
line_said s words = record { status = s; text = words ++ 10 ∷ [] }

-- a command that ends well, and has a line for its text
abbrev pub done_line : List ℕ → Said
done_line words = line_said status.Done words

abbrev pub usage : Said
usage = line_said status.Usage (codes "usage")

abbrev pub read_fault : Said
read_fault = line_said status.ReadFault (codes "read fault")

abbrev pub refused : List ℕ → Said
refused why = line_said status.Refused (codes "refused " ++ why)

-- what is said of a certificate
abbrev pub bad_proof : List ℕ → Said
bad_proof why = line_said status.BadProof (codes "refused " ++ why)

abbrev pub no_parse : Said
no_parse = line_said status.NoParse (codes "no parse")

abbrev pub range : Said
range = line_said status.Range (codes "range")

abbrev pub too_large : Said
too_large = line_said status.TooLarge (codes "too large")

abbrev pub out_of_memory : Said
out_of_memory = record { status = status.Memory; text = [] }
