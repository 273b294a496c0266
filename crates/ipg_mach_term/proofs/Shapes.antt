-- Where a term was entered, and what it is.
use Rattle.std.proofs.Common.{◌≡◌, ℕ, refl, sym, subst, List, [], Some, Err, ℤ}
use Rattle.ipg_core.specs.declared.grammar.CoreTerm.{CoreTerm}
use Rattle.ipg_core.specs.Tree as tree
use Rattle.ipg_core.specs.Run.{NoTree, stop}
use Rattle.ipg_core.specs.Meaning.{Frame, State}
use Rattle.ipg_mach_moves.specs.Moves as moves
use Rattle.ipg_mach_moves.specs.Moves.{silent}
use Rattle.ipg_table.specs.declared.row.RowSpan.{RowSpan}
use Rattle.ipg_table.specs.declared.row.SlotRow.{SlotRow}
use Rattle.ipg_table.specs.declared.row.Action.{Action}
use Rattle.ipg_table.specs.declared.row.Action.TheVariants.{Slot, Set, Test, Repeat, Many, Pick}
use Rattle.ipg_table.specs.Rows.{Rows, HoldsTerm}
use Rattle.ipg_mach_term.specs.declared.entry.TermEntry.TheVariants as entry
use Rattle.ipg_mach_term.specs.Advance.{IsEntry}

pub at_term : (P : CoreTerm → Type 0) (term other : CoreTerm) → term ≡ other → P other → P term
at_term P term other e h = subst P (sym e) h

pub at_both : (P : moves.Entry → CoreTerm → Type 0) (e f : moves.Entry) (term other : CoreTerm) → e ≡ f → term ≡ other → P f other → P e term
at_both P e f term other a b h = subst (λ x. P x term) (sym a) (at_term (P f) term other b h)

-- a term that can't have been entered there
module _ (t : Rows) (f : Frame) (state : State) (u n : ℕ) (items : List tree.Kid) (e : moves.Entry) (term : CoreTerm) where
  abbrev Refused : moves.Entry → CoreTerm → Type 0
  Refused e term = ((moves.advance silent f state u e (Some term)).asked ≡ []) × ((moves.advance silent f state u e (Some term)).answer ≡ Err NoTree)

  pub no_array : (action : Action) (left : ℕ) (z : ℤ) → ((first last : RowSpan) (row : SlotRow) → action ≡ Repeat first last row → ⊥)
      → HoldsTerm t action term → IsEntry n (entry.Items left z) items e → Refused e term
  unfolding stop
  no_array (Slot row) left z not h is = at_both Refused e _ term _ is.2 h.1 (refl, refl)
  no_array (Set attr value) left z not h is = at_both Refused e _ term _ is.2 h.1 (refl, refl)
  no_array (Test cond) left z not h is = at_both Refused e _ term _ is.2 h.1 (refl, refl)
  no_array (Repeat first last row) left z not h is = absurd (not first last row refl)
  no_array (Many row) left z not h is = at_both Refused e _ term _ is.2 h.1 (refl, refl)
  no_array (Pick cases other) left z not h is = at_both Refused e _ term _ is.2 h.2 (refl, refl)

  pub no_repetition : (action : Action) (from to : ℕ) → ((row : SlotRow) → action ≡ Many row → ⊥)
      → HoldsTerm t action term → IsEntry n (entry.Turns from to) items e → Refused e term
  unfolding stop
  no_repetition (Slot row) from to not h is = at_both Refused e _ term _ is.0 h.1 (refl, refl)
  no_repetition (Set attr value) from to not h is = at_both Refused e _ term _ is.0 h.1 (refl, refl)
  no_repetition (Test cond) from to not h is = at_both Refused e _ term _ is.0 h.1 (refl, refl)
  no_repetition (Repeat first last row) from to not h is = at_both Refused e _ term _ is.0 h.3 (refl, refl)
  no_repetition (Many row) from to not h is = absurd (not row refl)
  no_repetition (Pick cases other) from to not h is = at_both Refused e _ term _ is.0 h.2 (refl, refl)
