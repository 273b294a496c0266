-- The first byte of bytes, and what rows of expressions read.
use Rattle.std.specs.Prelude.{ℕ, List, [], ◌∷◌, Option, Some, None, Bool, false, nat_eq, pos}
use Rattle.ipg_core.specs.declared.grammar.CoreExpr.{CoreExpr}
use Rattle.ipg_core.specs.declared.grammar.CoreSlot.{CoreSlot}
use Rattle.ipg_core.specs.Environment.{Environment, value_at, done_at, seen}
use Rattle.ipg_table.specs.declared.row.Op.{Op}
use Rattle.ipg_table.specs.declared.row.Op.TheVariants as op
use Rattle.ipg_table.specs.declared.row.CaseRow.{CaseRow}
use Rattle.ipg_table.specs.Rows.{Rows, HoldsCase}
use Rattle.ipg_mach_failures.specs.declared.values.Operand.TheVariants.{Eoi, Own, Outer, Loop}
use Rattle.ipg_mach_failures.specs.declared.values.Valued.{Valued}
use Rattle.ipg_mach_failures.specs.Values.{valued, taken_of, seen_by, with_value}

abbrev pub begins : List ℕ → ℕ → Bool
begins [] want = false
begins (byte ∷ bytes) want = nat_eq want byte

-- ---- rows

-- the name that a row reads in an environment, with its value
abbrev pub row_read : Environment → Op → Option Valued
row_read env op.Eoi = Some (valued Eoi (Some (pos env.eoi)))
row_read env (op.Own a) = Some (valued (Own a) (value_at env.own a))
row_read env (op.Outer a) = Some (valued (Outer a) (value_at env.outer a))
row_read env op.Loop = Some (valued Loop env.item)
row_read env (op.Seen term sym field) = Some (valued (seen_by term (taken_of sym) field) (seen env.names sym field (done_at env.done term)))
row_read env _ = None

abbrev pub with_read : List Valued → Option Valued → List Valued
with_read values None = values
with_read values (Some one) = with_value values one

abbrev pub in_front : Option Valued → List Valued → List Valued
in_front None read = read
in_front (Some one) read = one ∷ read

abbrev pub rows_read : Environment → List Op → List Valued
rows_read env [] = []
rows_read env (row ∷ rows) = in_front (row_read env row) (rows_read env rows)

-- the row of a branch of a switch but for the last
abbrev pub HoldsBranch : Rows → Option CaseRow → Option (CoreExpr × CoreSlot) → Type 0
HoldsBranch t None None = Unit {0}
HoldsBranch t (Some row) (Some branch) = HoldsCase t row branch
HoldsBranch t None (Some branch) = ⊥
HoldsBranch t (Some row) None = ⊥
