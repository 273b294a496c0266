-- What a value says of the answers that it came from.
use Rattle.std.proofs.Common.{◌≡◌, ℕ, zero, suc, ◌^◌, Bool, true, false, not, refl, sym, ap, ◌∙◌, arith, ℤ, pos, negsuc, neg_ℤ, ◌-ℤ◌, Option, Some}
use Rattle.std.proofs.Common.{None, if◌then◌else◌, ◌⊎◌, inl, inr, nat_lt, nat_eq}
use Rattle.std.specs.Prelude.{int_le, int_lt, ◌≤ℤ◌, ◌<ℤ◌}
use Rattle.std.specs.Ordering.{int_eq}
use Rattle.std.proofs.lemmas.Int.{ints}
use Rattle.std.proofs.lemmas.Bool.Decides.{nat_tests, Decides-int_eq}
use Rattle.ipg_num.specs.Number.{limited, flag}
use Rattle.ipg_num.specs.declared.op.Answer.{Answer}
use Rattle.ipg_num.specs.declared.op.Answer.TheVariants.{Val, Fail, Range}
use Rattle.ipg_core.specs.declared.grammar.CoreExpr.{CoreExpr, fold_out-CoreExpr}
use Rattle.ipg_core.specs.Environment.{Environment}
use Rattle.ipg_core.specs.Eval as core
use Rattle.ipg_core.specs.Eval.{eval, opened, limited_reading, on_value, found, is_zero}

pub found_is : (o : Option ℤ) (z : ℤ) → found o ≡ Val z → o ≡ Some z
found_is None z e = cc
found_is (Some y) z e = cc

chosen_is : (b : Bool) (y z : ℤ) → (if b then Val y else Range) ≡ Val z → y ≡ z
chosen_is true y z e = cc
chosen_is false y z e = cc

pub limited_is : (y z : ℤ) → limited y ≡ Val z → y ≡ z
limited_is (pos n) z e = chosen_is (nat_lt n (2 ^ 63)) (pos n) z e
limited_is (negsuc n) z e = chosen_is (nat_lt n (2 ^ 63)) (negsuc n) z e

-- a value that was kept was there, and is a number
pub record Kept (r : Answer) (z : ℤ) : Type 0 where
  pub is : r ≡ Val z
  pub number : limited z ≡ Val z

pub kept : (r : Answer) (z : ℤ) → on_value r limited ≡ Val z → Kept r z
kept (Val y) z e = let f : y ≡ z = limited_is y z e in record { is = ap Val f; number = ap limited (sym f) ∙ e }
kept Fail z e = cc
kept Range z e = cc

eval_opened : (e : CoreExpr) (env : Environment) → eval e env ≡ limited_reading (opened e) env
unfolding eval
eval_opened e env = ap (λ f. f env) (fold_out-CoreExpr core.Reading limited_reading e)

-- a value is a number, since it was evaluated
pub is_limited : (e : CoreExpr) (env : Environment) (z : ℤ) → eval e env ≡ Val z → limited z ≡ Val z
is_limited e env z h = (kept (core.reading (opened e) env) z (sym (eval_opened e env) ∙ h)).number

-- the value that came first
pub record First (r : Answer) (go : ℤ → Answer) (z : ℤ) : Type 0 where
  pub first : ℤ
  pub is : r ≡ Val first
  pub goes : go first ≡ Val z

pub first_of : (r : Answer) (go : ℤ → Answer) (z : ℤ) → on_value r go ≡ Val z → First r go z
first_of (Val y) go z e = record { first = y; is = refl; goes = e }
first_of Fail go z e = cc
first_of Range go z e = cc

pub flag_is : (b : Bool) (z : ℤ) → flag b ≡ Val z → is_zero z ≡ not b
flag_is true z e = let f : pos 1 ≡ z = cc in ap is_zero (sym f)
flag_is false z e = let f : pos 0 ≡ z = cc in ap is_zero (sym f)

pub not_true : (a b : Bool) → a ≡ not b → a ≡ true → b ≡ false
not_true a true e f = cc
not_true a false e f = refl

pub not_false : (a b : Bool) → a ≡ not b → a ≡ false → b ≡ true
not_false a true e f = refl
not_false a false e f = cc

pub eq_true : (x y : ℤ) → int_eq x y ≡ true → x ≡ y
eq_true x y e = (Decides-int_eq x y).0 e

pub lt_true : (x y : ℤ) → int_lt x y ≡ true → x <ℤ y
lt_true x y e = grind (arith, ints)

pub lt_false : (x y : ℤ) → int_lt x y ≡ false → y ≤ℤ x
lt_false x y e = grind (arith, ints)

pub le_true : (x y : ℤ) → int_le x y ≡ true → x ≤ℤ y
le_true x y e = grind (arith, ints)

pub le_false : (x y : ℤ) → int_le x y ≡ false → y <ℤ x
le_false x y e = grind (arith, ints)

sides : (b c : Bool) (x y : ℤ) → int_lt x y ≡ b → int_lt y x ≡ c → int_eq x y ≡ false → (x <ℤ y) ⊎ (y <ℤ x)
sides true c x y e f g = inl (lt_true x y e)
sides false true x y e f g = inr (lt_true y x f)
sides false false x y e f g =
    let h : x ≡ y = (let p : y ≤ℤ x = lt_false x y e in let q : x ≤ℤ y = lt_false y x f in omega (arith, ints)) in
    absurd (let t : int_eq x y ≡ true = (Decides-int_eq x y).1 h in cc)

pub eq_false : (x y : ℤ) → int_eq x y ≡ false → (x <ℤ y) ⊎ (y <ℤ x)
eq_false x y e = sides (int_lt x y) (int_lt y x) x y refl refl e

-- a number is below 0, 0, or above it
pub not_zero : (z : ℤ) → is_zero z ≡ false → (z <ℤ pos 0) ⊎ (pos 0 <ℤ z)
not_zero (pos zero) e = cc
not_zero (pos (suc n)) e = inr (omega (arith, ints))
not_zero (negsuc n) e = inl (omega (arith, ints))

zero_nat : (n : ℕ) → nat_eq n 0 ≡ true → n ≡ 0
zero_nat n e = grind (arith, nat_tests)

pub zero_is : (z : ℤ) → is_zero z ≡ true → z ≡ pos 0
zero_is (pos n) e = ap pos (zero_nat n e)
zero_is (negsuc n) e = cc

pub minus_is : (x : ℤ) → pos 0 -ℤ x ≡ neg_ℤ x
minus_is x = omega (arith, ints)
