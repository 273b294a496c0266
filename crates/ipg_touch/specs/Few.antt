-- That the numbers of alternatives and terms fit 32 bits.
use Rattle.std.specs.Prelude.{◌≤◌, List, length}
use Rattle.std.specs.List.{AllByRecursion}
use Rattle.ipg_core.specs.declared.grammar.CoreAlt.{CoreAlt}

pub record IsFew (alts : List CoreAlt) : Type 0 where
  pub count : length alts ≤ 64
  pub each : AllByRecursion (λ alt. length alt.terms ≤ 256) alts
