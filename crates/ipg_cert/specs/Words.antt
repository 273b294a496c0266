-- The words of a refutation: its steps in prefix order, one space between words.
use Rattle.std.specs.Prelude.{ℕ, decimal, List, [], ◌∷◌, ◌++◌, length}
use Rattle.std.specs.Fmt.{signed_decimal}
use Rattle.std.specs.List.{flat_map}
use Rattle.ipg_cert.specs.declared.refutation.Step.{Step}
use Rattle.ipg_cert.specs.declared.refutation.Step.TheVariants.{Combine, Split, Either}

-- a space, and the number
abbrev pub number_word : ℕ → List ℕ
number_word n = 32 ∷ decimal n

-- a weight and a fact
abbrev pub entry_words : ℕ × ℕ → List ℕ
entry_words entry = number_word entry.0 ++ number_word entry.1

-- `c COUNT` and the entries, `s VAR AT`, `e FACT PARTS`
abbrev pub step_words : Step → List ℕ
step_words (Combine entries) = 99 ∷ number_word (length entries) ++ flat_map entry_words entries
step_words (Split x at) = 115 ∷ number_word x ++ 32 ∷ signed_decimal at
step_words (Either fact parts) = 101 ∷ number_word fact ++ number_word parts

abbrev pub spaced : Step → List ℕ
spaced step = 32 ∷ step_words step

abbrev pub words_of : List Step → List ℕ
words_of [] = []
words_of (step ∷ steps) = step_words step ++ flat_map spaced steps
