-- How keys are found: from one of the heads, and from there by cells, each of which names a row or none.
use Rattle.std.specs.Prelude.{ℕ, Option, List}

-- the heads are the first of the cells; of each row that a key went past it is known where the eight cells under it begin
pub record Table : Type 0 where
  pub heads : ℕ
  pub cells : List (Option ℕ)
  pub below : List (Option ℕ)
