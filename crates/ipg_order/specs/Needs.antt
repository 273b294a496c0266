-- An order by what each item needs, as lists of items.
use Rattle.std.specs.Prelude.{◌≡◌, ℕ, ◌<◌, List, [], length, Option, Some, None, true, false, slice_get, Contains}
use Rattle.ipg_core.specs.MustTouch.{Marks, is_marked}
use Rattle.ipg_core.specs.Order.{InOrder}
use Rattle.ipg_order.specs.Stuck.{EndsAt}
use Rattle.ipg_order.specs.declared.arranging.Arrangement.{Arrangement}
use Rattle.ipg_order.specs.declared.arranging.Arrangement.TheVariants.{Whole, Stuck}

abbrev pub or_none : Option (List ℕ) → List ℕ
or_none None = []
or_none (Some items) = items

-- what an item needs; nothing past the end
abbrev pub needs_at : List (List ℕ) → ℕ → List ℕ
needs_at needs u = or_none (slice_get needs u)

abbrev pub Listed : List (List ℕ) → ℕ → ℕ → Type 0
Listed needs u v = Contains (needs_at needs u) v

-- the item isn't taken, and what it needs is
pub record IsReady (needs : List (List ℕ)) (taken : Marks) (u : ℕ) : Type 0 where
  pub below : u < length needs
  pub fresh : is_marked taken u ≡ false
  pub provided : (v : ℕ) → Listed needs u v → is_marked taken v ≡ true

pub record IsFirstReady (needs : List (List ℕ)) (taken : Marks) (u : ℕ) : Type 0 where
  pub ready : IsReady needs taken u
  pub least : (w : ℕ) → w < u → IsReady needs taken w → ⊥

pub record IsFirstFree (taken : Marks) (u : ℕ) : Type 0 where
  pub below : u < length taken
  pub fresh : is_marked taken u ≡ false
  pub least : (w : ℕ) → w < u → is_marked taken w ≡ true

-- the whole order, or where it gets stuck
abbrev pub IsArrangement : List (List ℕ) → Arrangement → Type 0
IsArrangement needs (Whole order) = InOrder (Listed needs) (length needs) [] order.items
IsArrangement needs (Stuck u) = (order : List ℕ) × EndsAt (Listed needs) (length needs) [] order u
