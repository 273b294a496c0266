-- The page while leaves are put: a cell for each place, and the least place of a clash so far.
use Rattle.std.specs.Prelude.{◌≡◌, ℕ, List, Option, Some, None, slice_get, length}
use Rattle.std.specs.List.{Contains}
use Rattle.ipg_cover_leaves.specs.Back.{Agrees, IsClash, IsGap}
use Rattle.ipg_cover_leaves.specs.declared.fault.PutFault.{PutFault}
use Rattle.ipg_cover_leaves.specs.declared.fault.PutFault.TheVariants.{Value, Outside, Clash, Gap, Memory}

abbrev pub IsClashIf : List (ℕ × ℕ) → Option ℕ → Type 0
IsClashIf all None = (at : ℕ) → Agrees all at
IsClashIf all (Some at) = IsClash all at

-- each cell that holds a byte holds one that was put there, each place where one was put is held, and the clash is the least
pub record Holds (cells : List (Option ℕ)) (clash : Option ℕ) (all : List (ℕ × ℕ)) : Type 0 where
  pub was_put : (at b : ℕ) → slice_get cells at ≡ Some (Some b) → Contains all (at, b)
  pub is_held : (at b : ℕ) → Contains all (at, b) → (c : ℕ) × (slice_get cells at ≡ Some (Some c))
  pub clashes : IsClashIf all clash

-- a byte for each of so many places, each one that was put there
pub record AreBytes (all : List (ℕ × ℕ)) (len : ℕ) (bytes : List ℕ) : Type 0 where
  pub long : length bytes ≡ len
  pub each : (at b : ℕ) → slice_get bytes at ≡ Some b → Contains all (at, b)

abbrev pub IsGapFault : List (ℕ × ℕ) → ℕ → PutFault → Type 0
IsGapFault all len (Value leaf) = ⊥
IsGapFault all len (Outside leaf) = ⊥
IsGapFault all len (Clash at) = ⊥
IsGapFault all len (Gap at) = IsGap all len at
IsGapFault all len Memory = Unit {0}
