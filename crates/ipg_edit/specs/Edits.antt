-- What an edit makes of a session, and which edits there are.
use Rattle.std.specs.Prelude.{◌≡◌, ℕ, ◌≤◌, ◌^◌, List, length, Option, Some, None}
use Rattle.std.specs.FinMap as map
use Rattle.ipg_core.specs.Grammar.{Grammar}
use Rattle.ipg_mach_moves.specs.Moves.{Key}
use Rattle.ipg_edit_laws.specs.Edited.{edited, IsEditOf}
use Rattle.ipg_edit_laws.specs.Known.{keys_after}
use Rattle.ipg_memo.specs.Keyed.{Entries}
use Rattle.ipg_memo.specs.Moved.{IsMoved}
use Rattle.ipg_edit.specs.declared.session.State.{State}
use Rattle.ipg_edit.specs.declared.session.State.TheVariants as state
use Rattle.ipg_table.specs.Rows.{Rows}
use Rattle.ipg_edit.specs.Session.{Seen, Holding, Knows}

-- the edit lies in the input, and leaves no more bytes than an input may have
pub record IsAllowed (input : List ℕ) (from to : ℕ) (with : List ℕ) : Type 0 where
  pub within : IsEditOf input from to
  pub small : length (edited input from to with) ≤ 2 ^ 30

-- a memo's entries through an edit; where nothing is held there is nothing to move
abbrev pub AreMoved : (from to new : ℕ) → Option Entries → Option Entries → Type 0
AreMoved from to new (Some old) (Some later) = IsMoved from to new old later
AreMoved from to new (Some old) None = ⊥
AreMoved from to new None later = Unit {0}

-- the memo that a state has with other entries: none of its own where it holds nothing
abbrev pub memo_with : {A : Type 0} → State A → Option Entries → Option Entries
memo_with state.Nothing memo = Some map.empty
memo_with (state.Known kept) memo = memo
memo_with (state.Shown tree known) memo = memo

-- the bytes are replaced, the keys that are kept through the edit are known, and no tree is shown
pub record IsEdited (from to : ℕ) (with : List ℕ) (old new : Seen) : Type 0 where
  pub tables : new.tables ≡ old.tables
  pub input : new.input ≡ edited old.input from to with
  pub shown : new.holding.shown ≡ None
  pub knows : (g : Grammar) (kept : List Key) → Knows g kept old → Knows g (keys_after from to (length with) kept) new

-- what an edit makes of a memo's entries is what is known of the keys that are kept through it, over the same nodes
pub record StaysKnown : Type 0 where
  pub knows : (g : Grammar) (kept : List Key) (t : Rows) (s : List ℕ) (h : Holding) (from to : ℕ) (with : List ℕ) (memo : Option Entries)
      → Knows g kept (record { tables = t; input = s; holding = h }) → IsAllowed s from to with → AreMoved from to (length with) h.memo memo
      → Knows g (keys_after from to (length with) kept)
      (record { tables = t; input = edited s from to with; holding = record { store = h.store; memo = memo; shown = None } })
