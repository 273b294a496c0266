-- The levels of operators.
use Rattle.std.proofs.Common.{◌≡◌, ℕ, ◌+◌, ◌≤◌, ◌<◌, [], Bool, true, false, not, nat_le, refl, arith}
use Rattle.std.proofs.lemmas.Bool.{le-leb, lt-leb, leb-true, leb-false}
use Rattle.ipg_num.specs.declared.op.Op2.TheVariants.{Add, Sub, Mul, Div, Mod, Shl, Shr, BitAnd, BitOr, BitXor, Eq, Ne, Lt, Le, Gt, Ge}
use Rattle.ipg_read_syntax.specs.Classes.{Infix, either, both, op, level}
use Rattle.ipg_read_scan.specs.Lexemes.{infix_of, coded_infix}
use Rattle.ipg_read_scan.specs.Asked as A

pub coded_back : (i : Infix) → infix_of (coded_infix i) ≡ i
coded_back either = refl
coded_back both = refl
coded_back (op o) = refl

-- no operator is as loose as a conditional
pub above_none : (i : Infix) → nat_le (level i) 0 ≡ false
above_none either = refl
above_none both = refl
above_none (op Add) = refl
above_none (op Sub) = refl
above_none (op Mul) = refl
above_none (op Div) = refl
above_none (op Mod) = refl
above_none (op Shl) = refl
above_none (op Shr) = refl
above_none (op BitAnd) = refl
above_none (op BitOr) = refl
above_none (op BitXor) = refl
above_none (op Eq) = refl
above_none (op Ne) = refl
above_none (op Lt) = refl
above_none (op Le) = refl
above_none (op Gt) = refl
above_none (op Ge) = refl

pub above_zero : (i : Infix) → nat_le 0 (level i) ≡ true
above_zero i = le-leb 0 (level i) (omega arith)

pub above_one : (i : Infix) → nat_le 1 (level i) ≡ true
above_one either = refl
above_one both = refl
above_one (op Add) = refl
above_one (op Sub) = refl
above_one (op Mul) = refl
above_one (op Div) = refl
above_one (op Mod) = refl
above_one (op Shl) = refl
above_one (op Shr) = refl
above_one (op BitAnd) = refl
above_one (op BitOr) = refl
above_one (op BitXor) = refl
above_one (op Eq) = refl
above_one (op Ne) = refl
above_one (op Lt) = refl
above_one (op Le) = refl
above_one (op Gt) = refl
above_one (op Ge) = refl

pub no_question : (i : Infix) → A.question (level i + 1) ≡ A.passed []
no_question either = refl
no_question both = refl
no_question (op Add) = refl
no_question (op Sub) = refl
no_question (op Mul) = refl
no_question (op Div) = refl
no_question (op Mod) = refl
no_question (op Shl) = refl
no_question (op Shr) = refl
no_question (op BitAnd) = refl
no_question (op BitOr) = refl
no_question (op BitXor) = refl
no_question (op Eq) = refl
no_question (op Ne) = refl
no_question (op Lt) = refl
no_question (op Le) = refl
no_question (op Gt) = refl
no_question (op Ge) = refl

-- an operator that doesn't close another is taken as part of its right operand
pub tighter : (m n : ℕ) → nat_le (m + 1) n ≡ not (nat_le n m)
tighter m n = go (nat_le n m) refl
  where
    go : (b : Bool) → nat_le n m ≡ b → nat_le (m + 1) n ≡ not b
    go true is = lt-leb (m + 1) n (let l : n < m + 1 = omega (arith, leb-true n m is) in l)
    go false is = le-leb (m + 1) n (let l : m + 1 ≤ n = omega (arith, leb-false n m is) in l)
