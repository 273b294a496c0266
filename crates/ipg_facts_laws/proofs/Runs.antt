-- What the answer of a run says of its parts.
use Rattle.std.proofs.Common.{◌≡◌, ℕ, ◌≤◌, refl, ap, arith, Bool, true, false, ◌&&◌, cond, Option, Some, None, Result, Ok, Err, ℤ, pos, negsuc, ◌⊎◌, inl, inr}
use Rattle.std.specs.Prelude.{nat_le}
use Rattle.std.proofs.lemmas.Bool.{leb-true, and_parts}
use Rattle.ipg_num.specs.declared.op.Answer.{Answer}
use Rattle.ipg_num.specs.declared.op.Answer.TheVariants.{Val, Fail, Range}
use Rattle.ipg_core.specs.declared.grammar.CoreExpr.{CoreExpr}
use Rattle.ipg_core.specs.Part.{interval}
use Rattle.ipg_core.specs.Eval.{eval}
use Rattle.ipg_core.specs.Run.{Stop, NoTree, OutOfRange, Deep, Run, finish, stop, after, go_on, ◌>>=◌, or_next, or_else, value_of, some_of}
use Rattle.ipg_core.specs.Meaning.{Frame, State, environment, value_in}

pub value_is : (a : Answer) (z : ℤ) → (value_of a).answer ≡ Ok z → a ≡ Val z
unfolding finish stop
value_is (Val x) z e = let same : x ≡ z = cc in ap Val same
value_is Fail z e = absurd (cc)
value_is Range z e = absurd (cc)

pub some_is : {A : Type 0} (o : Option A) (a : A) → (some_of o).answer ≡ Ok a → o ≡ Some a
unfolding finish stop
some_is (Some x) a e = let same : x ≡ a = cc in ap Some same
some_is None a e = absurd (cc)

pub finish_is : {A : Type 0} (a b : A) → (finish a).answer ≡ Ok b → a ≡ b
unfolding finish
finish_is a b e = cc

pub stop_is : {A P : Type 0} (why : Stop) (a : A) → (stop {A = A} why).answer ≡ Ok a → P
unfolding stop
stop_is why a e = absurd (cc)

-- a value in a state
pub in_state : (f : Frame) (state : State) (item : Option ℤ) (e : CoreExpr) (z : ℤ) → (value_in f state item e).answer ≡ Ok z
    → eval e (environment f state item) ≡ Val z
unfolding value_in
in_state f state item e z h = value_is _ z h

-- a run that went on: the value that came first, and what it led to
pub record Went {A B : Type 0} (run : Run A) (go : A → Run B) (b : B) : Type 0 where
  pub value : A
  pub first : run.answer ≡ Ok value
  pub rest : (go value).answer ≡ Ok b

went_go : {A B : Type 0} (answer : Result A Stop) (go : A → Run B) (b : B) → (go_on answer go).answer ≡ Ok b
    → (a : A) × ((answer ≡ Ok a) × ((go a).answer ≡ Ok b))
unfolding go_on stop
went_go (Ok a) go b e = (a, (refl, e))
went_go (Err why) go b e = absurd (cc)

pub went : {A B : Type 0} (run : Run A) (go : A → Run B) (b : B) → (run >>= go).answer ≡ Ok b → Went run go b
unfolding ◌>>=◌ after
went run go b e = let w = went_go run.answer go b e in record { value = w.0; first = w.1.0; rest = w.1.1 }

-- the way there
pub goes : {A B : Type 0} (run : Run A) (go : A → Run B) (a : A) → run.answer ≡ Ok a → (run >>= go).answer ≡ (go a).answer
unfolding ◌>>=◌ after go_on
goes run go a e = rw e refl

next_is : {A : Type 0} (answer : Result A Stop) (next : Run A) (a : A) → (or_next answer next).answer ≡ Ok a → (answer ≡ Ok a) ⊎ (next.answer ≡ Ok a)
unfolding or_next stop finish
next_is (Ok x) next a e = inl e
next_is (Err NoTree) next a e = inr e
next_is (Err OutOfRange) next a e = absurd (cc)
next_is (Err Deep) next a e = absurd (cc)

-- one of two runs
pub either_is : {A : Type 0} (run next : Run A) (a : A) → (or_else run next).answer ≡ Ok a → (run.answer ≡ Ok a) ⊎ (next.answer ≡ Ok a)
unfolding or_else after
either_is run next a e = next_is run.answer next a e

-- the ends of a valid interval are the values
pub record AreEnds (n : ℕ) (l r : ℤ) (ends : ℕ × ℕ) : Type 0 where
  pub left : l ≡ pos ends.0
  pub right : r ≡ pos ends.1
  pub order : ends.0 ≤ ends.1
  pub inside : ends.1 ≤ n

abbrev both : ℕ → ℕ → ℕ × ℕ
both l r = (l, r)

chosen_ends : (n : ℕ) (b : Bool) (l r : ℕ) (ends : ℕ × ℕ) → (nat_le l r && nat_le r n) ≡ b → cond {A = Option (ℕ × ℕ)} b (Some (l, r)) None ≡ Some ends
    → AreEnds n (pos l) (pos r) ends
chosen_ends n true l r ends t e =
    let pairs : both l r ≡ ends = cc in
    let tests = and_parts (nat_le l r) (nat_le r n) t in
    let first : l ≡ ends.0 = ap (λ (p : ℕ × ℕ). p.0) pairs in
    let last : r ≡ ends.1 = ap (λ (p : ℕ × ℕ). p.1) pairs in
    let le : l ≤ r = leb-true _ _ tests.0 in
    let within : r ≤ n = leb-true _ _ tests.1 in
    record { left = ap pos first; right = ap pos last; order = omega arith; inside = omega arith }
chosen_ends n false l r ends t e = absurd (cc)

pub ends_are : (n : ℕ) (l r : ℤ) (ends : ℕ × ℕ) → interval n l r ≡ Some ends → AreEnds n l r ends
ends_are n (pos l) (pos r) ends e = chosen_ends n _ l r ends refl e
ends_are n (negsuc l) r ends e = absurd (cc)
ends_are n (pos l) (negsuc r) ends e = absurd (cc)
