-- The furthest failures, as they are kept.
use Rattle.std.specs.Prelude.{◌≡◌, ℕ, ◌-◌, ◌^◌, min, List, [], ◌∷◌, Option, Some, None}
use Rattle.ipg_mach_failures.specs.declared.story.Story.{Story}
use Rattle.ipg_mach_failures.specs.Furthest as spec
use Rattle.ipg_mach_watch.specs.declared.furthest.Furthest as code

-- these are told, and as many more were met, at most 2^64 - 1
pub record IsFurthest {A : Type 0} (kept : code.Furthest A) (f : spec.Furthest) : Type 0 where
  pub told : kept.told.items ≡ f.told
  pub more : kept.more ≡ min f.more (2 ^ 64 - 1)

-- the place of those that are told is that of the first
abbrev pub told_place : List Story → Option ℕ
told_place [] = None
told_place (one ∷ told) = Some one.failure.place
