-- What a stack holds: items, the one on top last.
use Rattle.std.specs.Prelude.{List, []}

pub record Stacked (T : Type 0) : Type 0 where
  pub items : List T

abbrev pub none_stacked : {T : Type 0} → Stacked T
none_stacked = record { items = [] }
