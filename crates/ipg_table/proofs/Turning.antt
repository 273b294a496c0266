-- One row after another, as the loop takes them.
use Rattle.std.proofs.Common.{◌≡◌, ℕ, zero, suc, ◌+◌, ◌<◌, ◌≤◌, List, [], ◌∷◌, length, drop, get_or}
use Rattle.std.proofs.Common.{refl, sym, ap, subst, ◌∙◌, arith, ℤ, Option, Some, None, IfSome}
use Rattle.ipg_num.specs.Number.{limited, apply_of}
use Rattle.ipg_num.specs.declared.op.Op2.{Op2}
use Rattle.ipg_num.specs.declared.op.Answer.{Answer}
use Rattle.ipg_num.specs.declared.op.Answer.TheVariants.{Val}
use Rattle.ipg_core.specs.Environment.{Environment}
use Rattle.ipg_core.specs.Eval.{on_value}
use Rattle.ipg_table.specs.declared.row.Op.{Op}
use Rattle.ipg_table.specs.declared.row.Op.TheVariants.{Two}
use Rattle.ipg_table.specs.Running.{Next, computed, on_top, run}
use Rattle.ipg_table.specs.Stack.{Puts}
use Rattle.ipg_table.proofs.Runs.{put_is}

run_drop : (env : Environment) (room k : ℕ) (ops : List Op) (stack : List ℤ) → run env room k ops stack ≡ run env room 0 (drop k ops) stack
run_drop env room zero [] stack = refl
run_drop env room (suc k) [] stack = refl
run_drop env room zero (op ∷ ops) stack = refl
run_drop env room (suc k) (op ∷ ops) stack = run_drop env room k ops stack

pub turn_on : (env : Environment) (room : ℕ) (left rest : List Op) (op : Op) (stack next : List ℤ) (skip : ℕ) → op ≡ get_or left 0 op → 0 < length left
    → ((go : Next) → computed env room op stack go ≡ go skip next) → rest ≡ drop (skip + 1) left
    → run env room 0 left stack ≡ run env room 0 rest next
turn_on env room [] rest op stack next skip is within does e = absurd (omega arith)
turn_on env room (x ∷ left) rest op stack next skip is within does e =
    let one : skip + 1 ≡ suc skip = omega arith in
    ap (λ o. computed env room o stack (λ k s. run env room k left s)) (sym is)
    ∙ does (λ k s. run env room k left s)
    ∙ run_drop env room skip left next
    ∙ ap (λ l. run env room 0 l next) (sym (e ∙ ap (λ k. drop k (x ∷ left)) one))

pub turn_end : (env : Environment) (room : ℕ) (left : List Op) (op : Op) (stack : List ℤ) (answer : Answer) → op ≡ get_or left 0 op → 0 < length left
    → ((go : Next) → computed env room op stack go ≡ answer) → run env room 0 left stack ≡ answer
turn_end env room [] op stack answer is within does = absurd (omega arith)
turn_end env room (x ∷ left) op stack answer is within does =
    ap (λ o. computed env room o stack (λ k s. run env room k left s)) (sym is) ∙ does (λ k s. run env room k left s)

pub all_run : (env : Environment) (room : ℕ) (left : List Op) (stack : List ℤ) → length left ≤ 0 → run env room 0 left stack ≡ on_top stack (λ z rest. Val z)
all_run env room [] stack h = refl
all_run env room (x ∷ left) stack h = absurd (omega arith)

pub one_run : (env : Environment) (room : ℕ) (ops : List Op) (op : Op) (number : Option ℤ) → op ≡ get_or ops 0 op → length ops ≡ 1 → 1 ≤ room
    → IfSome number (Puts env room op) → IfSome number (λ z. run env room 0 ops [] ≡ Val z)
one_run env room [] op number is one within puts = absurd (omega arith)
one_run env room (x ∷ y ∷ ops) op number is one within puts = absurd (omega arith)
one_run env room (x ∷ []) op None is one within puts = puts
one_run env room (x ∷ []) op (Some z) is one within puts =
    ap (λ o. computed env room o [] (λ k s. run env room k [] s)) (sym is) ∙ puts [] (λ k s. run env room k [] s) (omega arith)

-- two rows that put a number each, and their operator
three_run : (env : Environment) (room : ℕ) (a b : Op) (op : Op2) (x y : ℤ) (number : Option ℤ) → 2 ≤ room → Puts env room a x → Puts env room b y
    → IfSome number (λ z. on_value (apply_of op x y) limited ≡ Val z) → IfSome number (λ z. run env room 0 (a ∷ b ∷ Two op ∷ []) [] ≡ Val z)
three_run env room a b op x y None within first second is = is
three_run env room a b op x y (Some z) within first second is =
    first [] (λ k s. run env room k (b ∷ Two op ∷ []) s) (omega arith)
    ∙ second (x ∷ []) (λ k s. run env room k (Two op ∷ []) s) (omega arith)
    ∙ put_is room (apply_of op x y) 0 [] (λ k s. run env room k [] s) (omega arith)
    ∙ ap (λ a. on_value a (λ z. Val z)) is

pub pair_run : (env : Environment) (room : ℕ) (ops : List Op) (a b c : Op) (op : Op2) (x y : ℤ) (number : Option ℤ) → length ops ≡ 3 → a ≡ get_or ops 0 a
    → b ≡ get_or ops 1 b → c ≡ get_or ops 2 c → c ≡ Two op → 2 ≤ room → Puts env room a x → Puts env room b y
    → IfSome number (λ z. on_value (apply_of op x y) limited ≡ Val z) → IfSome number (λ z. run env room 0 ops [] ≡ Val z)
pair_run env room [] a b c op x y number three is_a is_b is_c two within first second is = absurd (omega arith)
pair_run env room (k ∷ []) a b c op x y number three is_a is_b is_c two within first second is = absurd (omega arith)
pair_run env room (k ∷ l ∷ []) a b c op x y number three is_a is_b is_c two within first second is = absurd (omega arith)
pair_run env room (k ∷ l ∷ m ∷ n ∷ ops) a b c op x y number three is_a is_b is_c two within first second is = absurd (omega arith)
pair_run env room (k ∷ l ∷ m ∷ []) a b c op x y number three is_a is_b is_c two within first second is =
    let same : k ∷ l ∷ m ∷ [] ≡ a ∷ b ∷ Two op ∷ [] = cc in
    subst (λ ops. IfSome number (λ z. run env room 0 ops [] ≡ Val z)) (sym same) (three_run env room a b op x y number within first second is)
