-- Whether a grammar leaves no byte out, and what is said of one that may.
use Rattle.std.specs.Prelude.{◌≡◌, ◌⊎◌, ℕ, ℤ, List, ◌∷◌, ◌++◌, codes, decimal}
use Rattle.std.specs.Fmt.{signed_decimal}
use Rattle.ipg_cert.specs.declared.refutation.Refutation.{Refutation}
use Rattle.ipg_core.specs.Grammar.{Grammar, rule_at}
use Rattle.ipg_cover.specs.Cover.{Covers, HasGap}
use Rattle.ipg_app_text.specs.Said.{Said, done_line, refused}
use Rattle.ipg_app_text.specs.CoreOf.{name_of}

-- RULE/ALT
unfoldable pub place_words : Grammar → ℕ × ℕ → List ℕ
place_words g place = name_of (rule_at g place.0) ++ 47 ∷ decimal place.1

unfoldable pub at_words : ℤ → List ℕ
at_words at = codes " AT=" ++ signed_decimal at

unfoldable pub eoi_words : ℤ → List ℕ
eoi_words eoi = codes " EOI=" ++ signed_decimal eoi

-- RULE/ALT AT=P EOI=N
abbrev pub gap_words : Grammar → ℕ × ℕ → ℤ → ℤ → List ℕ
gap_words g place at eoi = place_words g place ++ (at_words at ++ eoi_words eoi)

-- V5
abbrev pub may_gap : Grammar → ℕ × ℕ → ℤ → ℤ → Said
may_gap g place at eoi = refused (codes "V5 MayGap " ++ gap_words g place at eoi)

-- every alternative that is reached is refuted a gap
pub record IsCovered (g : Grammar) (said : Said) : Type 0 where
  pub refutations : List Refutation
  pub covers : Covers g refutations
  pub is : said ≡ done_line (codes "covered")

-- the first alternative that may leave out a byte, with the least length and then the least place
pub record MayMiss (g : Grammar) (said : Said) : Type 0 where
  pub place : ℕ × ℕ
  pub at : ℤ
  pub eoi : ℤ
  pub gap : HasGap g place at eoi
  pub is : said ≡ may_gap g place at eoi

abbrev pub CoverSays : Grammar → Said → Type 0
CoverSays g said = IsCovered g said ⊎ MayMiss g said
