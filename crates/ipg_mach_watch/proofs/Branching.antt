-- A branch of a switch, by its row.
use Rattle.std.proofs.Common.{◌≡◌, ℕ, zero, suc, refl, List, [], ◌∷◌, Option, Some, None}
use Rattle.std.specs.Prelude.{slice_get}
use Rattle.ipg_core.specs.declared.grammar.CoreExpr.{CoreExpr}
use Rattle.ipg_core.specs.declared.grammar.CoreSlot.{CoreSlot}
use Rattle.ipg_table.specs.declared.row.CaseRow.{CaseRow}
use Rattle.ipg_table.specs.Rows.{Rows, Each, HoldsCase}
use Rattle.ipg_mach_watch.specs.Agreeing.{HoldsBranch}

pub record IsBranch (t : Rows) (row : CaseRow) (branch : Option (CoreExpr × CoreSlot)) : Type 0 where
  pub one : CoreExpr × CoreSlot
  pub is : branch ≡ Some one
  pub holds : HoldsCase t row one

pub is_branch : (t : Rows) (row : CaseRow) (branch : Option (CoreExpr × CoreSlot)) → HoldsBranch t (Some row) branch → IsBranch t row branch
is_branch t row None h = absurd h
is_branch t row (Some one) h = record { one = one; is = refl; holds = h }

pub branch_at : (t : Rows) (rows : List CaseRow) (branches : List (CoreExpr × CoreSlot)) (i : ℕ) → Each (HoldsCase t) rows branches
    → HoldsBranch t (slice_get rows i) (slice_get branches i)
branch_at t [] [] i each = tt
branch_at t [] (one ∷ branches) i each = absurd each
branch_at t (row ∷ rows) [] i each = absurd each
branch_at t (row ∷ rows) (one ∷ branches) zero each = each.0
branch_at t (row ∷ rows) (one ∷ branches) (suc i) each = branch_at t rows branches i each.1
