-- What the frames of an expression do with the operand above them.
use Rattle.std.proofs.Common.{◌≡◌, ℕ, ◌+◌, ◌≤◌, ◌<◌, List, [], ◌∷◌, Bool, true, false, cond, Some, refl, ap, arith, lit≤}
use Rattle.std.proofs.lemmas.Bool.{le-leb, lt-leb, true≢false}
use Rattle.ipg_num.specs.declared.op.Op2.TheVariants.{Add, Sub, Mul, Div, Mod, Shl, Shr, BitAnd, BitOr, BitXor, Eq, Ne, Lt, Le, Gt, Ge}
use Rattle.ipg_read_syntax.specs.Classes.{Infix, either, both, op, level, Tok, sign, question, dot, left_paren}
use Rattle.ipg_read_syntax.specs.Written.{prefix_level}
use Rattle.ipg_read_syntax.specs.Machine.{Acts, Frame, neg, isnt, left, group, index, then_of, else_of, close, Base}
use Rattle.ipg_read_syntax.specs.Machine.{still, expr, with_left, with_test, finished, have_move, name_move}

pub level_low : (i : Infix) → 1 ≤ level i
level_low either = lit≤ tt
level_low both = lit≤ tt
level_low (op Add) = lit≤ tt
level_low (op Sub) = lit≤ tt
level_low (op Mul) = lit≤ tt
level_low (op Div) = lit≤ tt
level_low (op Mod) = lit≤ tt
level_low (op Shl) = lit≤ tt
level_low (op Shr) = lit≤ tt
level_low (op BitAnd) = lit≤ tt
level_low (op BitOr) = lit≤ tt
level_low (op BitXor) = lit≤ tt
level_low (op Eq) = lit≤ tt
level_low (op Ne) = lit≤ tt
level_low (op Lt) = lit≤ tt
level_low (op Le) = lit≤ tt
level_low (op Gt) = lit≤ tt
level_low (op Ge) = lit≤ tt

-- the level at which the operand above the frames has to stand
abbrev pub need : {A : Acts} → List (Frame A) → ℕ
need [] = 0
need (neg ∷ fs) = prefix_level
need (isnt ∷ fs) = prefix_level
need (left i a ∷ fs) = level i + 1
need (group ∷ fs) = 0
need (index i ∷ fs) = 0
need (then_of c at ∷ fs) = 0
need (else_of c at a ∷ fs) = 0

pub close_none : (A : Acts) (p : ℕ) (fs : List (Frame A)) (e : A.Expr) → need fs ≤ p → 1 ≤ p → p < prefix_level
    → close A p fs e ≡ record { frames = fs; operand = e }
close_none A p [] e due low high = refl
close_none A p (neg ∷ fs) e due low high = absurd (let no : ⊥ = omega arith in no)
close_none A p (isnt ∷ fs) e due low high = absurd (let no : ⊥ = omega arith in no)
close_none A p (left i a ∷ fs) e due low high = rw (lt-leb p (level i) (let l : level i < p = omega arith in l)) refl
close_none A p (group ∷ fs) e due low high = refl
close_none A p (index i ∷ fs) e due low high = refl
close_none A p (then_of c at ∷ fs) e due low high = refl
close_none A p (else_of c at a ∷ fs) e due low high = rw (lt-leb p 0 low) refl

pub close_left : (A : Acts) (p : ℕ) (fs : List (Frame A)) (i : Infix) (a b : A.Expr) → p ≤ level i
    → close A p (left i a ∷ fs) b ≡ close A p fs (A.two i a b)
close_left A p fs i a b tight = ap (λ yes. cond yes (close A p fs (A.two i a b)) (record { frames = left i a ∷ fs; operand = b })) (le-leb p (level i) tight)

pub close_else : (A : Acts) (p : ℕ) (fs : List (Frame A)) (c : A.Expr) (at : _) (a b : A.Expr) → p ≤ 0
    → close A p (else_of c at a ∷ fs) b ≡ close A p fs (A.choose c at a b)
close_else A p fs c at a b loose = ap (λ yes. cond yes (close A p fs (A.choose c at a b)) (record { frames = else_of c at a ∷ fs; operand = b }))
    (le-leb p 0 loose)

-- ---- the token after an operand

abbrev pub tightness : Tok → ℕ
tightness (sign i) = level i
tightness (question at) = 1
tightness t = 0

-- goes on after a name
abbrev pub goes_on : Tok → Bool
goes_on dot = true
goes_on left_paren = true
goes_on t = false

-- a token that ends an expression of the level, where one stands before it
abbrev pub Ends : ℕ → Tok → Type 0
Ends l t = (tightness t ≤ l) × (goes_on t ≡ false)

pub name_ends : (A : Acts) (at : ℕ) (log : A.Log) (base : Base A) (first : ℕ) (fs : List (Frame A)) (i : _) (t : Tok) → goes_on t ≡ false
    → name_move A at log base first fs i t ≡ have_move A at log base first fs (A.own i) t
name_ends A at log base first fs i dot ends = absurd (true≢false ends)
name_ends A at log base first fs i left_paren ends = absurd (true≢false ends)
name_ends A at log base first fs i t ends = refl

-- two stacks answer alike where they close alike
pub same_close : (A : Acts) (at : ℕ) (log : A.Log) (base : Base A) (first : ℕ) (fs gs : List (Frame A)) (e f : A.Expr) (t : Tok)
    → close A (tightness t) fs e ≡ close A (tightness t) gs f → have_move A at log base first fs e t ≡ have_move A at log base first gs f t
same_close A at log base first fs gs e f (sign i) same = ap (λ c. Some (still log (expr base first (with_left i c)))) same
same_close A at log base first fs gs e f (question span) same = ap (λ c. Some (still log (expr base first (with_test span c)))) same
same_close A at log base first fs gs e f t same = ap (λ c. finished A at log base first c t) same
