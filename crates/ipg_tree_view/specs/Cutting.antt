-- A text that is kept up to 54 characters while it is put together.
use Rattle.std.specs.Prelude.{◌≡◌, List, ◌++◌, ℕ, map, take, length, Bool, nat_lt}
use Rattle.ipg_tree_view.specs.View.{printable}

pub record Begun : Type 0 where
  pub kept : List ℕ
  pub is_longer : Bool

-- what is kept of a text
abbrev pub begun : List ℕ → Begun
begun text = record { kept = take 54 (map printable text); is_longer = nat_lt 54 (length text) }

-- it is kept of a text but for its end
abbrev pub Lacks : Begun → (text : List ℕ) → (end : List ℕ) → Type 0
Lacks b text end = (done : List ℕ) × (done ++ end ≡ text) × (b ≡ begun done)
