-- What the rows of an expression compute, on a stack with room for so many numbers.
use Rattle.std.specs.Prelude.{ℕ, zero, suc, List, [], ◌∷◌, length, Option, Some, None, true, false, ℤ, pos, nat_lt, not, if◌then◌else◌}
use Rattle.ipg_num.specs.Number.{limited, flag, apply_of, negate_of}
use Rattle.ipg_num.specs.declared.op.Answer.{Answer}
use Rattle.ipg_num.specs.declared.op.Answer.TheVariants.{Val, Fail}
use Rattle.ipg_core.specs.Environment.{Environment, value_at, done_at, items_so_far, seen, field_of_item}
use Rattle.ipg_core.specs.Eval.{on_value, found, is_zero, item_at, greatest_end}
use Rattle.ipg_table.specs.declared.row.Op.{Op}
use Rattle.ipg_table.specs.declared.row.Op.TheVariants.{Num, Eoi, Own, Outer, Loop, Seen, Item, After, Neg, Not, Two, Both, Either, Truth, Cond, Else, Close}

-- what comes next: so many rows are passed over, with this stack
abbrev pub Next : Type 0
Next = ℕ → List ℤ → Answer

-- a value is put on the stack, where there is room
abbrev pub put : ℕ → Answer → ℕ → List ℤ → Next → Answer
put room answer skip stack next =
    on_value (on_value answer limited) (λ z. if nat_lt (length stack) room then next skip (z ∷ stack) else Fail)

-- takes the number on top
abbrev pub on_top : List ℤ → (ℤ → List ℤ → Answer) → Answer
on_top [] go = Fail
on_top (x ∷ stack) go = go x stack

-- an end that is there is put, and so many rows are passed over
abbrev pub put_end : ℕ → Option ℕ → ℕ → List ℤ → Next → Answer
put_end room None skip stack next = next 0 stack
put_end room (Some end) skip stack next = put room (Val (pos end)) skip stack next

-- one row
abbrev pub computed : Environment → ℕ → Op → List ℤ → Next → Answer
computed env room (Num z) stack next = put room (Val z) 0 stack next
computed env room Eoi stack next = put room (Val (pos env.eoi)) 0 stack next
computed env room (Own a) stack next = put room (found (value_at env.own a)) 0 stack next
computed env room (Outer a) stack next = put room (found (value_at env.outer a)) 0 stack next
computed env room Loop stack next = put room (found env.item) 0 stack next
computed env room (Seen term sym field) stack next = put room (found (seen env.names sym field (done_at env.done term))) 0 stack next
computed env room (Item term field) stack next =
    on_top stack (λ i rest. put room (found (field_of_item env.names field (item_at (items_so_far (done_at env.done term)) i))) 0 rest next)
computed env room (After term skip) stack next = put_end room (greatest_end (items_so_far (done_at env.done term))) skip stack next
computed env room Neg stack next = on_top stack (λ x rest. put room (negate_of x) 0 rest next)
computed env room Not stack next = on_top stack (λ x rest. put room (flag (is_zero x)) 0 rest next)
computed env room (Two op) stack next = on_top stack (λ y rest. on_top rest (λ x rest. put room (apply_of op x y) 0 rest next))
computed env room (Both skip) stack next = on_top stack (λ x rest. if is_zero x then put room (flag false) skip rest next else next 0 rest)
computed env room (Either skip) stack next = on_top stack (λ x rest. if is_zero x then next 0 rest else put room (flag true) skip rest next)
computed env room Truth stack next = on_top stack (λ y rest. put room (flag (not (is_zero y))) 0 rest next)
computed env room (Cond skip) stack next = on_top stack (λ x rest. if is_zero x then next skip rest else next 0 rest)
computed env room (Else skip) stack next = next skip stack
computed env room Close stack next = next 0 stack

-- rows one after another, of which so many are passed over first; the value is what is on top in the end
abbrev pub run : Environment → ℕ → ℕ → List Op → List ℤ → Answer
run env room skip [] stack = on_top stack (λ z rest. Val z)
run env room (suc skip) (op ∷ ops) stack = run env room skip ops stack
run env room zero (op ∷ ops) stack = computed env room op stack (λ skip stack. run env room skip ops stack)
