-- That the numbers of terms, alternatives and branches fit 32 bits.
use Rattle.std.specs.Prelude.{◌<◌, ◌^◌, List, length}
use Rattle.std.specs.List.{AllByRecursion}
use Rattle.ipg_core.specs.declared.grammar.CoreTerm.{CoreTerm}
use Rattle.ipg_core.specs.declared.grammar.CoreAlt.{CoreAlt}
use Rattle.ipg_core.specs.Good.{slots_in}

abbrev pub FewSlots : CoreTerm → Type 0
FewSlots term = slots_in term < 2 ^ 32

pub record FewTerms (terms : List CoreTerm) : Type 0 where
  pub few : length terms < 2 ^ 32
  pub each : AllByRecursion FewSlots terms

pub record FewAlts (alts : List CoreAlt) : Type 0 where
  pub few : length alts < 2 ^ 32
  pub each : AllByRecursion (λ alt. FewTerms alt.terms) alts
