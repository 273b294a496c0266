-- The value of an expression: a number of 64 bits, Fail or Range.
use Rattle.std.specs.Prelude.{ℕ, Option, Some, None, Bool, true, false, ℤ, pos, negsuc, nat_eq, max, not, if◌then◌else◌}
use Rattle.ipg_core.specs.declared.grammar.CoreExpr.{CoreExpr, fold-CoreExpr, map-CoreExpr, out-CoreExpr}
use Rattle.ipg_core.specs.declared.grammar.CoreExpr.TheOpen.{CoreExpr-F}
use Rattle.ipg_num.specs.Number.{limited, flag, apply_of, negate_of}
use Rattle.ipg_num.specs.declared.op.Answer.{Answer}
use Rattle.ipg_num.specs.declared.op.Answer.TheVariants.{Val, Fail, Range}
use Rattle.ipg_core.specs.Tree.{Kid, Kids, no_kids, kid, kid_at}
use Rattle.ipg_core.specs.Touch.{ends_of, touches, Ends}
use Rattle.ipg_core.specs.Environment.{Environment, value_at, done_at, items_so_far, seen, field_of_item}

-- goes on with a number; else the answer stands
abbrev pub on_value : Answer → (ℤ → Answer) → Answer
on_value (Val z) go = go z
on_value Fail go = Fail
on_value Range go = Range

-- what is there, else Fail
abbrev pub found : Option ℤ → Answer
found None = Fail
found (Some z) = Val z

abbrev pub is_zero : ℤ → Bool
is_zero (pos n) = nat_eq n 0
is_zero (negsuc n) = false

-- the item at an index, which is none at a negative one
abbrev pub item_at : Kids → ℤ → Option Kid
item_at items (pos n) = kid_at items n
item_at items (negsuc n) = None

-- the greater of the ends so far and those of one more, where that touches
abbrev pub later : Ends → Option ℕ → Option ℕ
later e None = if touches e then Some e.end else None
later e (Some end) = if touches e then Some (max e.end end) else Some end

-- the greatest end of the items that touch
abbrev pub greatest_end : Kids → Option ℕ
greatest_end no_kids = None
greatest_end (kid k ks) = later (ends_of k) (greatest_end ks)

-- behind an array or a repetition: the greatest end, else `left`
abbrev pub behind : Option ℕ → Answer → Answer
behind None left = left
behind (Some end) left = Val (pos end)

abbrev pub Reading : Type 0
Reading = Environment → Answer

-- one expression, each part of it already read
abbrev pub reading : CoreExpr-F Reading → Reading
reading (CoreExpr-F.Num z) env = Val z
reading CoreExpr-F.Eoi env = Val (pos env.eoi)
reading (CoreExpr-F.Own a) env = found (value_at env.own a)
reading (CoreExpr-F.Outer a) env = found (value_at env.outer a)
reading CoreExpr-F.Loop env = found env.item
reading (CoreExpr-F.Seen term sym field) env = found (seen env.names sym field (done_at env.done term))
reading (CoreExpr-F.Item term index field) env =
    on_value (index env) (λ i. found (field_of_item env.names field (item_at (items_so_far (done_at env.done term)) i)))
reading (CoreExpr-F.After term left) env = behind (greatest_end (items_so_far (done_at env.done term))) (left env)
reading (CoreExpr-F.Neg a) env = on_value (a env) negate_of
reading (CoreExpr-F.Not a) env = on_value (a env) (λ x. flag (is_zero x))
reading (CoreExpr-F.Two op a b) env = on_value (a env) (λ x. on_value (b env) (λ y. apply_of op x y))
reading (CoreExpr-F.Both a b) env =
    on_value (a env) (λ x. if is_zero x then flag false else on_value (b env) (λ y. flag (not (is_zero y))))
reading (CoreExpr-F.Either a b) env =
    on_value (a env) (λ x. if is_zero x then on_value (b env) (λ y. flag (not (is_zero y))) else flag true)
reading (CoreExpr-F.Cond c a b) env = on_value (c env) (λ x. if is_zero x then b env else a env)

-- each value is a number, also one that is only read
abbrev pub limited_reading : CoreExpr-F Reading → Reading
limited_reading e env = on_value (reading e env) limited

-- the value of an expression in an environment
unfoldable pub eval : CoreExpr → Reading
eval = fold-CoreExpr Reading limited_reading

-- one level of an expression, its parts as readings
abbrev pub opened : CoreExpr → CoreExpr-F Reading
opened e = map-CoreExpr CoreExpr Reading eval (out-CoreExpr e)
