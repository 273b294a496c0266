-- Words of a line.
use Rattle.std.specs.Prelude.{ℕ, List, [], ◌∷◌, ◌++◌, flat_map}

-- words that follow others, each behind a space
abbrev pub spaced : List (List ℕ) → List ℕ
spaced words = flat_map (λ word. 32 ∷ word) words

-- words, each before a space, and what follows them
abbrev pub parted : List (List ℕ) → List ℕ → List ℕ
parted [] rest = rest
parted (word ∷ words) rest = word ++ 32 ∷ parted words rest
