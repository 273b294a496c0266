-- The operand stack as the code keeps it: numbers from the start of an area, the last one on top.
use Rattle.std.specs.Prelude.{◌≡◌, ℕ, zero, suc, ◌≤◌, ◌<◌, List, [], ◌∷◌, length, get_or, ℤ, pos}
use Rattle.ipg_num.specs.declared.op.Answer.{Answer}
use Rattle.ipg_core.specs.Environment.{Environment}
use Rattle.ipg_table.specs.declared.row.Op.{Op}
use Rattle.ipg_table.specs.declared.value.RowTurn.{RowTurn}
use Rattle.ipg_table.specs.declared.value.RowTurn.TheVariants.{On, End}
use Rattle.ipg_table.specs.Running.{Next, computed}

-- the stack, from the top down
abbrev pub stacked : List ℤ → ℕ → List ℤ
stacked area zero = []
stacked area (suc n) = get_or area n (pos 0) ∷ stacked area n

-- what a row does, whatever comes next
abbrev pub Turns : RowTurn → List ℤ → (Next → Answer) → Type 0
Turns (On skip top) area does = (next : Next) → does next ≡ next skip (stacked area top)
Turns (End answer) area does = (next : Next) → does next ≡ answer

-- the stack that is left lies within its area
abbrev pub StackWithin : RowTurn → List ℤ → Type 0
StackWithin (On skip top) area = top ≤ length area
StackWithin (End answer) area = Unit {0}

-- a row puts this number on any stack with room for it
abbrev pub Puts : Environment → ℕ → Op → ℤ → Type 0
Puts env room op z = (stack : List ℤ) (next : Next) → length stack < room → computed env room op stack next ≡ next 0 (z ∷ stack)
