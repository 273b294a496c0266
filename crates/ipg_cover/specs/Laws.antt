-- A grammar has one answer.
use Rattle.std.specs.Prelude.{◌≡◌, ℕ, ℤ, List}
use Rattle.ipg_core.specs.Grammar.{Grammar}
use Rattle.ipg_cert.specs.declared.refutation.Refutation.{Refutation}
use Rattle.ipg_cover.specs.Cover.{Covers, HasGap}

-- no grammar that leaves no byte out has a gap
abbrev pub CoveredHasNoGap : Type 0
CoveredHasNoGap = (g : Grammar) (refutations : List Refutation) (place : ℕ × ℕ) (at eoi : ℤ) → Covers g refutations → ¬ HasGap g place at eoi

-- the gap that is told is one: its alternative, its place and the length of the part
abbrev pub OneGap : Type 0
OneGap = (g : Grammar) (place other : ℕ × ℕ) (at eoi at_other eoi_other : ℤ) → HasGap g place at eoi → HasGap g other at_other eoi_other
    → (place ≡ other) × (at ≡ at_other) × (eoi ≡ eoi_other)
