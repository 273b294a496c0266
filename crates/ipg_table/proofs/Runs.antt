-- The rows of an expression compute its value, and put it on the stack.
use Rattle.std.proofs.Common.{◌≡◌, ℕ, suc, ◌+◌, ◌≤◌, ◌<◌, ◌^◌, max, List, [], ◌∷◌, ◌++◌, length, Bool, true, false, not, nat_lt, refl, sym, ap, subst}
use Rattle.std.proofs.Common.{◌∙◌, arith, append_assoc, append-nil, ℤ, pos, negsuc, Option, Some, None, if◌then◌else◌}
use Rattle.std.proofs.lemmas.Bool.{lt-ltb}
use Rattle.std.proofs.Math.Nat.{le-max_left, le-max_right}
use Rattle.ipg_num.specs.Number.{limited, flag, apply_of, negate_of}
use Rattle.ipg_num.specs.declared.op.Answer.{Answer}
use Rattle.ipg_num.specs.declared.op.Answer.TheVariants.{Val, Fail, Range}
use Rattle.ipg_core.specs.declared.grammar.CoreExpr.{CoreExpr, map-CoreExpr, roll-CoreExpr, ind-CoreExpr, fold-roll-CoreExpr, fold_out-CoreExpr}
use Rattle.ipg_core.specs.declared.grammar.CoreExpr.TheOpen.{CoreExpr-F}
use Rattle.ipg_core.specs.Environment.{Environment, done_at, items_so_far, field_of_item}
use Rattle.ipg_core.specs.Eval.{eval, Reading, reading, limited_reading, opened, on_value, found, is_zero, item_at, greatest_end, behind}
use Rattle.ipg_table.specs.declared.row.Op.{Op}
use Rattle.ipg_table.specs.declared.row.Op.TheVariants as ops
use Rattle.ipg_table.specs.Code.{code, code_step, choice_code, depth, depth_step}
use Rattle.ipg_table.specs.Running.{Next, put, put_end, computed, run}

-- answers

keeps : (b : Bool) (n k : ℕ) (z : ℤ) → nat_lt n k ≡ b → (if nat_lt n k then Val z else Range) ≡ (if b then Val z else Range)
keeps b n k z e = ap (λ b. if b then Val z else Range) e

limited_pos : (b : Bool) (n : ℕ) → nat_lt n (2 ^ 63) ≡ b → on_value (limited (pos n)) limited ≡ limited (pos n)
limited_pos true n e = ap (λ a. on_value a limited) (keeps true n (2 ^ 63) (pos n) e)
limited_pos false n e = ap (λ a. on_value a limited) (keeps false n (2 ^ 63) (pos n) e) ∙ sym (keeps false n (2 ^ 63) (pos n) e)

limited_neg : (b : Bool) (n : ℕ) → nat_lt n (2 ^ 63) ≡ b → on_value (limited (negsuc n)) limited ≡ limited (negsuc n)
limited_neg true n e = ap (λ a. on_value a limited) (keeps true n (2 ^ 63) (negsuc n) e)
limited_neg false n e = ap (λ a. on_value a limited) (keeps false n (2 ^ 63) (negsuc n) e) ∙ sym (keeps false n (2 ^ 63) (negsuc n) e)

limited_once : (z : ℤ) → on_value (limited z) limited ≡ limited z
limited_once (pos n) = limited_pos (nat_lt n (2 ^ 63)) n refl
limited_once (negsuc n) = limited_neg (nat_lt n (2 ^ 63)) n refl

limited_twice : (a : Answer) → on_value (on_value a limited) limited ≡ on_value a limited
limited_twice (Val z) = limited_once z
limited_twice Fail = refl
limited_twice Range = refl

eval_opened : (e : CoreExpr) (env : Environment) → eval e env ≡ limited_reading (opened e) env
unfolding eval
eval_opened e env = ap (λ f. f env) (fold_out-CoreExpr Reading limited_reading e)

-- a value is a number
settled : (e : CoreExpr) (env : Environment) → on_value (eval e env) limited ≡ eval e env
settled e env =
    ap (λ a. on_value a limited) (eval_opened e env) ∙ limited_twice (reading (opened e) env) ∙ sym (eval_opened e env)

same_rest : (a : Answer) (f g : ℤ → Answer) → ((z : ℤ) → f z ≡ g z) → on_value a f ≡ on_value a g
same_rest (Val z) f g h = h z
same_rest Fail f g h = refl
same_rest Range f g h = refl

-- a value, what becomes of it, and what follows
chained : (a : Answer) (f : ℤ → Answer) (k go : ℤ → Answer) → ((x : ℤ) → go x ≡ on_value (on_value (f x) limited) k)
    → on_value a go ≡ on_value (on_value (on_value a f) limited) k
chained (Val x) f k go h = h x
chained Fail f k go h = refl
chained Range f k go h = refl

-- rows

pub put_is : (room : ℕ) (answer : Answer) (skip : ℕ) (stack : List ℤ) (next : Next) → length stack < room
    → put room answer skip stack next ≡ on_value (on_value answer limited) (λ z. next skip (z ∷ stack))
put_is room answer skip stack next h =
    ap (λ b. on_value (on_value answer limited) (λ z. if b then next skip (z ∷ stack) else Fail)) (lt-ltb (length stack) room h)

skipped : (env : Environment) (room : ℕ) (passed rest : List Op) (stack : List ℤ)
    → run env room (length passed) (passed ++ rest) stack ≡ run env room 0 rest stack
skipped env room [] rest stack = refl
skipped env room (op ∷ passed) rest stack = skipped env room passed rest stack

skipped_closed : (env : Environment) (room : ℕ) (passed rest : List Op) (last : Op) (stack : List ℤ)
    → run env room (length passed + 1) (passed ++ last ∷ rest) stack ≡ run env room 0 rest stack
skipped_closed env room [] rest last stack = refl
skipped_closed env room (op ∷ passed) rest last stack =
    let one : suc (length passed) + 1 ≡ suc (length passed + 1) = omega arith in
    ap (λ n. run env room n (op ∷ (passed ++ last ∷ rest)) stack) one ∙ skipped_closed env room passed rest last stack

module _ (env : Environment) (room : ℕ) where
  -- the rows compute the expression's value
  abbrev pub Computes : CoreExpr → Type 0
  Computes e = (rest : List Op) (stack : List ℤ) → depth e + length stack ≤ room
      → run env room 0 (code e ++ rest) stack ≡ on_value (eval e env) (λ z. run env room 0 rest (z ∷ stack))

  abbrev Sure : Type 0
  Sure = (e : CoreExpr) × Computes e

  abbrev bare : CoreExpr-F Sure → CoreExpr-F CoreExpr
  bare y = map-CoreExpr Sure CoreExpr (λ e. e.0) y

  module _ (y : CoreExpr-F CoreExpr) where
    code_is : code (roll-CoreExpr y) ≡ code_step (map-CoreExpr CoreExpr (List Op) code y)
    unfolding code
    code_is = fold-roll-CoreExpr (List Op) code_step y

    depth_is : depth (roll-CoreExpr y) ≡ depth_step (map-CoreExpr CoreExpr ℕ depth y)
    unfolding depth
    depth_is = fold-roll-CoreExpr ℕ depth_step y

    eval_is : eval (roll-CoreExpr y) env ≡ on_value (reading (map-CoreExpr CoreExpr Reading eval y) env) limited
    unfolding eval
    eval_is = ap (λ f. f env) (fold-roll-CoreExpr Reading limited_reading y)

    -- it is enough to look at one level
    level : ((rest : List Op) (stack : List ℤ) → depth_step (map-CoreExpr CoreExpr ℕ depth y) + length stack ≤ room
        → run env room 0 (code_step (map-CoreExpr CoreExpr (List Op) code y) ++ rest) stack
        ≡ on_value (on_value (reading (map-CoreExpr CoreExpr Reading eval y) env) limited) (λ z. run env room 0 rest (z ∷ stack)))
        → Computes (roll-CoreExpr y)
    level h rest stack fits =
        ap (λ c. run env room 0 (c ++ rest) stack) code_is
        ∙ h rest stack (subst (λ d. d + length stack ≤ room) depth_is fits)
        ∙ ap (λ a. on_value a (λ z. run env room 0 rest (z ∷ stack))) (sym eval_is)

  -- a row that puts a value
  leaf : (y : CoreExpr-F CoreExpr) (op : Op) → code_step (map-CoreExpr CoreExpr (List Op) code y) ≡ op ∷ [] → depth_step (map-CoreExpr CoreExpr ℕ depth y) ≡ 1
      → ((stack : List ℤ) (next : Next) → computed env room op stack next ≡ put room (reading (map-CoreExpr CoreExpr Reading eval y) env) 0 stack next)
      → Computes (roll-CoreExpr y)
  leaf y op is one does = level y (λ rest stack fits.
      let within : length stack < room = omega arith in
      ap (λ c. run env room 0 (c ++ rest) stack) is
      ∙ does stack (λ skip stack. run env room skip rest stack)
      ∙ put_is room (reading (map-CoreExpr CoreExpr Reading eval y) env) 0 stack (λ skip stack. run env room skip rest stack) within)

  -- an operand, and a row that takes it
  operand : (a : Sure) (op : Op) (f : ℤ → Answer)
      → ((x : ℤ) (stack : List ℤ) (next : Next) → computed env room op (x ∷ stack) next ≡ put room (f x) 0 stack next)
      → (rest : List Op) (stack : List ℤ) → depth a.0 + 1 + length stack ≤ room
      → run env room 0 ((code a.0 ++ op ∷ []) ++ rest) stack ≡ on_value (on_value (on_value (eval a.0 env) f) limited) (λ z. run env room 0 rest (z ∷ stack))
  operand a op f does rest stack fits =
      let deep : depth a.0 + length stack ≤ room = omega arith in
      let within : length stack < room = omega arith in
      ap (λ c. run env room 0 c stack) (append_assoc (code a.0) (op ∷ []) rest)
      ∙ a.1 (op ∷ rest) stack deep
      ∙ chained (eval a.0 env) f (λ z. run env room 0 rest (z ∷ stack)) (λ x. run env room 0 (op ∷ rest) (x ∷ stack))
      (λ x. does x stack (λ skip stack. run env room skip rest stack) ∙ put_is room (f x) 0 stack (λ skip stack. run env room skip rest stack) within)

  -- two operands, and the row that takes them
  operands : (a b : Sure) (op : Op) (f : ℤ → ℤ → Answer)
      → ((x y : ℤ) (stack : List ℤ) (next : Next) → computed env room op (y ∷ x ∷ stack) next ≡ put room (f x y) 0 stack next)
      → (rest : List Op) (stack : List ℤ) → max (depth a.0) (depth b.0) + 1 + length stack ≤ room
      → run env room 0 ((code a.0 ++ (code b.0 ++ op ∷ [])) ++ rest) stack
      ≡ on_value (on_value (on_value (eval a.0 env) (λ x. on_value (eval b.0 env) (λ y. f x y))) limited) (λ z. run env room 0 rest (z ∷ stack))
  operands a b op f does rest stack fits =
      let la = le-max_left (depth a.0) (depth b.0) in
      let lb = le-max_right (depth a.0) (depth b.0) in
      let deep : depth a.0 + length stack ≤ room = omega arith in
      let deeper : depth b.0 + suc (length stack) ≤ room = omega arith in
      let within : length stack < room = omega arith in
      let k : ℤ → Answer = λ z. run env room 0 rest (z ∷ stack) in
      ap (λ c. run env room 0 c stack) (append_assoc (code a.0) (code b.0 ++ op ∷ []) rest ∙ ap (λ l. code a.0 ++ l) (append_assoc (code b.0) (op ∷ []) rest))
      ∙ a.1 (code b.0 ++ op ∷ rest) stack deep
      ∙ chained (eval a.0 env) (λ x. on_value (eval b.0 env) (λ y. f x y)) k (λ x. run env room 0 (code b.0 ++ op ∷ rest) (x ∷ stack))
      (λ x. b.1 (op ∷ rest) (x ∷ stack) deeper
      ∙ chained (eval b.0 env) (λ y. f x y) k (λ y. run env room 0 (op ∷ rest) (y ∷ x ∷ stack))
      (λ y. does x y stack (λ skip stack. run env room skip rest stack) ∙ put_is room (f x y) 0 stack (λ skip stack. run env room skip rest stack) within))

  -- rows that may be passed over, and the row that closes them
  module _ (b : Sure) (last : Op) (rest : List Op) (stack : List ℤ) (within : length stack < room) where
    -- a value is put, and they are passed over
    passed : (answer : Answer)
        → put room answer (length (code b.0) + 1) stack (λ skip stack. run env room skip (code b.0 ++ last ∷ rest) stack)
        ≡ on_value (on_value answer limited) (λ z. run env room 0 rest (z ∷ stack))
    passed answer =
        put_is room answer (length (code b.0) + 1) stack (λ skip stack. run env room skip (code b.0 ++ last ∷ rest) stack) within
        ∙ same_rest (on_value answer limited) (λ z. run env room (length (code b.0) + 1) (code b.0 ++ last ∷ rest) (z ∷ stack))
        (λ z. run env room 0 rest (z ∷ stack))
        (λ z. skipped_closed env room (code b.0) rest last (z ∷ stack))

  -- the right side of `&&` and of `||`
  right_side : (b : Sure) (rest : List Op) (stack : List ℤ) → length stack < room → depth b.0 + length stack ≤ room
      → run env room 0 (code b.0 ++ ops.Truth ∷ rest) stack
      ≡ on_value (on_value (on_value (eval b.0 env) (λ y. flag (not (is_zero y)))) limited) (λ z. run env room 0 rest (z ∷ stack))
  right_side b rest stack within deep =
      b.1 (ops.Truth ∷ rest) stack deep
      ∙ chained (eval b.0 env) (λ y. flag (not (is_zero y))) (λ z. run env room 0 rest (z ∷ stack)) (λ y. run env room 0 (ops.Truth ∷ rest) (y ∷ stack))
      (λ y. put_is room (flag (not (is_zero y))) 0 stack (λ skip stack. run env room skip rest stack) within)

  both_side : (zero : Bool) (b : Sure) (rest : List Op) (stack : List ℤ) → length stack < room → depth b.0 + length stack ≤ room
      → (if zero then put room (flag false) (length (code b.0) + 1) stack (λ skip stack. run env room skip (code b.0 ++ ops.Truth ∷ rest) stack)
      else run env room 0 (code b.0 ++ ops.Truth ∷ rest) stack)
      ≡ on_value (on_value (if zero then flag false else on_value (eval b.0 env) (λ y. flag (not (is_zero y)))) limited) (λ z. run env room 0 rest (z ∷ stack))
  both_side true b rest stack within deep = passed b ops.Truth rest stack within (flag false)
  both_side false b rest stack within deep = right_side b rest stack within deep

  either_side : (zero : Bool) (b : Sure) (rest : List Op) (stack : List ℤ) → length stack < room → depth b.0 + length stack ≤ room
      → (if zero then run env room 0 (code b.0 ++ ops.Truth ∷ rest) stack
      else put room (flag true) (length (code b.0) + 1) stack (λ skip stack. run env room skip (code b.0 ++ ops.Truth ∷ rest) stack))
      ≡ on_value (on_value (if zero then on_value (eval b.0 env) (λ y. flag (not (is_zero y))) else flag true) limited) (λ z. run env room 0 rest (z ∷ stack))
  either_side true b rest stack within deep = right_side b rest stack within deep
  either_side false b rest stack within deep = passed b ops.Truth rest stack within (flag true)

  -- a left side, a row that may pass the right one over, and what that comes to
  sides : (a b : Sure) (op : Op) (f : ℤ → Answer) (rest : List Op) (stack : List ℤ) → depth a.0 + length stack ≤ room
      → ((x : ℤ) → computed env room op (x ∷ stack) (λ skip stack. run env room skip (code b.0 ++ ops.Truth ∷ rest) stack)
      ≡ on_value (on_value (f x) limited) (λ z. run env room 0 rest (z ∷ stack)))
      → run env room 0 ((code a.0 ++ op ∷ (code b.0 ++ ops.Truth ∷ [])) ++ rest) stack
      ≡ on_value (on_value (on_value (eval a.0 env) f) limited) (λ z. run env room 0 rest (z ∷ stack))
  sides a b op f rest stack deep does =
      ap (λ c. run env room 0 c stack) (append_assoc (code a.0) (op ∷ (code b.0 ++ ops.Truth ∷ [])) rest
      ∙ ap (λ l. code a.0 ++ op ∷ l) (append_assoc (code b.0) (ops.Truth ∷ []) rest))
      ∙ a.1 (op ∷ (code b.0 ++ ops.Truth ∷ rest)) stack deep
      ∙ chained (eval a.0 env) f (λ z. run env room 0 rest (z ∷ stack)) (λ x. run env room 0 (op ∷ (code b.0 ++ ops.Truth ∷ rest)) (x ∷ stack)) does

  -- the two choices of a condition
  choice_side : (zero : Bool) (a b : Sure) (rest : List Op) (stack : List ℤ) → depth a.0 + length stack ≤ room → depth b.0 + length stack ≤ room
      → (if zero then run env room (length (code a.0) + 1) (code a.0 ++ ops.Else (length (code b.0) + 1) ∷ (code b.0 ++ ops.Close ∷ rest)) stack
      else run env room 0 (code a.0 ++ ops.Else (length (code b.0) + 1) ∷ (code b.0 ++ ops.Close ∷ rest)) stack)
      ≡ on_value (on_value (if zero then eval b.0 env else eval a.0 env) limited) (λ z. run env room 0 rest (z ∷ stack))
  choice_side true a b rest stack deep other =
      skipped_closed env room (code a.0) (code b.0 ++ ops.Close ∷ rest) (ops.Else (length (code b.0) + 1)) stack
      ∙ b.1 (ops.Close ∷ rest) stack other
      ∙ ap (λ v. on_value v (λ z. run env room 0 rest (z ∷ stack))) (sym (settled b.0 env))
  choice_side false a b rest stack deep other =
      a.1 (ops.Else (length (code b.0) + 1) ∷ (code b.0 ++ ops.Close ∷ rest)) stack deep
      ∙ same_rest (eval a.0 env) (λ z. run env room (length (code b.0) + 1) (code b.0 ++ ops.Close ∷ rest) (z ∷ stack)) (λ z. run env room 0 rest (z ∷ stack))
      (λ z. skipped_closed env room (code b.0) rest ops.Close (z ∷ stack))
      ∙ ap (λ v. on_value v (λ z. run env room 0 rest (z ∷ stack))) (sym (settled a.0 env))

  choice : (c a b : Sure) (rest : List Op) (stack : List ℤ) → max (depth c.0) (max (depth a.0) (depth b.0)) + 1 + length stack ≤ room
      → run env room 0 (choice_code (code c.0) (code a.0) (code b.0) ++ rest) stack
      ≡ on_value (on_value (on_value (eval c.0 env) (λ x. if is_zero x then eval b.0 env else eval a.0 env)) limited) (λ z. run env room 0 rest (z ∷ stack))
  choice c a b rest stack fits =
      let lc = le-max_left (depth c.0) (max (depth a.0) (depth b.0)) in
      let lr = le-max_right (depth c.0) (max (depth a.0) (depth b.0)) in
      let la = le-max_left (depth a.0) (depth b.0) in
      let lb = le-max_right (depth a.0) (depth b.0) in
      let deep : depth c.0 + length stack ≤ room = omega arith in
      let one : depth a.0 + length stack ≤ room = omega arith in
      let other : depth b.0 + length stack ≤ room = omega arith in
      let cond = ops.Cond (length (code a.0) + 1) in
      let else' = ops.Else (length (code b.0) + 1) in
      let rows = code a.0 ++ else' ∷ (code b.0 ++ ops.Close ∷ rest) in
      ap (λ c. run env room 0 c stack) (append_assoc (code c.0) (cond ∷ (code a.0 ++ else' ∷ (code b.0 ++ ops.Close ∷ []))) rest
      ∙ ap (λ l. code c.0 ++ cond ∷ l) (append_assoc (code a.0) (else' ∷ (code b.0 ++ ops.Close ∷ [])) rest
      ∙ ap (λ l. code a.0 ++ else' ∷ l) (append_assoc (code b.0) (ops.Close ∷ []) rest)))
      ∙ c.1 (cond ∷ rows) stack deep
      ∙ chained (eval c.0 env) (λ x. if is_zero x then eval b.0 env else eval a.0 env) (λ z. run env room 0 rest (z ∷ stack))
      (λ x. run env room 0 (cond ∷ rows) (x ∷ stack))
      (λ x. choice_side (is_zero x) a b rest stack one other)

  end_side : (end : Option ℕ) (left : Sure) (rest : List Op) (stack : List ℤ) → length stack < room → depth left.0 + length stack ≤ room
      → put_end room end (length (code left.0) + 1) stack (λ skip stack. run env room skip (code left.0 ++ ops.Close ∷ rest) stack)
      ≡ on_value (on_value (behind end (eval left.0 env)) limited) (λ z. run env room 0 rest (z ∷ stack))
  end_side None left rest stack within deep =
      left.1 (ops.Close ∷ rest) stack deep ∙ ap (λ v. on_value v (λ z. run env room 0 rest (z ∷ stack))) (sym (settled left.0 env))
  end_side (Some end) left rest stack within deep = passed left ops.Close rest stack within (Val (pos end))

  after : (term : ℕ) (left : Sure) (rest : List Op) (stack : List ℤ) → depth left.0 + 1 + length stack ≤ room
      → run env room 0 ((ops.After term (length (code left.0) + 1) ∷ (code left.0 ++ ops.Close ∷ [])) ++ rest) stack
      ≡ on_value (on_value (behind (greatest_end (items_so_far (done_at env.done term))) (eval left.0 env)) limited) (λ z. run env room 0 rest (z ∷ stack))
  after term left rest stack fits =
      let deep : depth left.0 + length stack ≤ room = omega arith in
      let within : length stack < room = omega arith in
      ap (λ c. run env room 0 (ops.After term (length (code left.0) + 1) ∷ c) stack) (append_assoc (code left.0) (ops.Close ∷ []) rest)
      ∙ end_side (greatest_end (items_so_far (done_at env.done term))) left rest stack within deep

  step : (y : CoreExpr-F Sure) → Computes (roll-CoreExpr (bare y))
  step (CoreExpr-F.Num z) = leaf (CoreExpr-F.Num z) (ops.Num z) refl refl (λ stack next. refl)
  step CoreExpr-F.Eoi = leaf CoreExpr-F.Eoi ops.Eoi refl refl (λ stack next. refl)
  step (CoreExpr-F.Own a) = leaf (CoreExpr-F.Own a) (ops.Own a) refl refl (λ stack next. refl)
  step (CoreExpr-F.Outer a) = leaf (CoreExpr-F.Outer a) (ops.Outer a) refl refl (λ stack next. refl)
  step CoreExpr-F.Loop = leaf CoreExpr-F.Loop ops.Loop refl refl (λ stack next. refl)
  step (CoreExpr-F.Seen term sym' field) = leaf (CoreExpr-F.Seen term sym' field) (ops.Seen term sym' field) refl refl (λ stack next. refl)
  step (CoreExpr-F.Item term index field) = level (CoreExpr-F.Item term index.0 field)
      (operand index (ops.Item term field) (λ i. found (field_of_item env.names field (item_at (items_so_far (done_at env.done term)) i)))
      (λ x stack next. refl))
  step (CoreExpr-F.After term left) = level (CoreExpr-F.After term left.0) (after term left)
  step (CoreExpr-F.Neg a) = level (CoreExpr-F.Neg a.0) (operand a ops.Neg negate_of (λ x stack next. refl))
  step (CoreExpr-F.Not a) = level (CoreExpr-F.Not a.0) (operand a ops.Not (λ x. flag (is_zero x)) (λ x stack next. refl))
  step (CoreExpr-F.Two op a b) = level (CoreExpr-F.Two op a.0 b.0) (operands a b (ops.Two op) (apply_of op) (λ x y stack next. refl))
  step (CoreExpr-F.Both a b) = level (CoreExpr-F.Both a.0 b.0) (λ rest stack fits.
      let la = le-max_left (depth a.0) (depth b.0) in
      let lb = le-max_right (depth a.0) (depth b.0) in
      let deep : depth a.0 + length stack ≤ room = omega arith in
      let other : depth b.0 + length stack ≤ room = omega arith in
      let within : length stack < room = omega arith in
      sides a b (ops.Both (length (code b.0) + 1)) (λ x. if is_zero x then flag false else on_value (eval b.0 env) (λ y. flag (not (is_zero y)))) rest
      stack deep
      (λ x. both_side (is_zero x) b rest stack within other))
  step (CoreExpr-F.Either a b) = level (CoreExpr-F.Either a.0 b.0) (λ rest stack fits.
      let la = le-max_left (depth a.0) (depth b.0) in
      let lb = le-max_right (depth a.0) (depth b.0) in
      let deep : depth a.0 + length stack ≤ room = omega arith in
      let other : depth b.0 + length stack ≤ room = omega arith in
      let within : length stack < room = omega arith in
      sides a b (ops.Either (length (code b.0) + 1)) (λ x. if is_zero x then on_value (eval b.0 env) (λ y. flag (not (is_zero y))) else flag true)
      rest stack deep
      (λ x. either_side (is_zero x) b rest stack within other))
  step (CoreExpr-F.Cond c a b) = level (CoreExpr-F.Cond c.0 a.0 b.0) (choice c a b)

  computes : (e : CoreExpr) → Computes e
  computes = ind-CoreExpr Computes (λ x y is. subst (λ z. Computes (roll-CoreExpr z)) is (step y))

  last : (a : Answer) → on_value a (λ z. Val z) ≡ a
  last (Val z) = refl
  last Fail = refl
  last Range = refl

  pub value_is : (e : CoreExpr) → depth e ≤ room → run env room 0 (code e) [] ≡ eval e env
  value_is e fits =
      let deep : depth e + 0 ≤ room = omega arith in
      ap (λ c. run env room 0 c []) (sym (append-nil (code e))) ∙ computes e [] [] deep ∙ last (eval e env)
