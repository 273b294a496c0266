-- A list, and room for so many items more.
use Rattle.std.specs.Prelude.{ℕ, List}

pub record Filled (T : Type 0) : Type 0 where
  pub items : List T
  pub spare : ℕ
