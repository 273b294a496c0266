-- Rows that need no more than one number of the stack, which is in hand.
use Rattle.std.specs.Prelude.{◌≡◌, ℕ, ◌+◌, List, [], ◌∷◌, drop, Option, Some, None, ℤ}
use Rattle.ipg_core.specs.Environment.{Environment}
use Rattle.ipg_table.specs.declared.in_hand.Holding.{Holding}
use Rattle.ipg_table.specs.declared.row.Op.{Op}
use Rattle.ipg_table.specs.Running.{Next, computed, run}

-- the stack, where no more than what is in hand lies on it
abbrev pub handed : Option ℤ → List ℤ
handed None = []
handed (Some z) = z ∷ []

-- a row leads from a stack to what is in hand
abbrev pub LeadsOn : Environment → ℕ → Op → List ℤ → Holding → Type 0
LeadsOn env room op stack hand = (next : Next) → computed env room op stack next ≡ next hand.skip (handed hand.number)

-- the first of these rows, and those that are passed over, lead there
abbrev pub LeadOn : Environment → ℕ → List Op → List ℤ → Holding → Type 0
LeadOn env room ops stack hand = run env room 0 ops stack ≡ run env room 0 (drop (hand.skip + 1) ops) (handed hand.number)
