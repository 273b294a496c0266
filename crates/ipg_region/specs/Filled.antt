-- What cells hold: items, each read by its place, and room for so many more.
use Rattle.std.specs.Prelude.{ℕ, List}

pub record Filled (T : Type 0) : Type 0 where
  pub items : List T
  pub spare : ℕ
