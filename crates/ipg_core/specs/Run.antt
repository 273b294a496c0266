-- The answer of an evaluation, with a log of the calls that it makes.
use Rattle.std.specs.Prelude.{ℕ, List, [], ◌++◌, Result, Ok, Err, Option, Some, None}
use Rattle.ipg_num.specs.declared.op.Answer.{Answer}
use Rattle.ipg_num.specs.declared.op.Answer.TheVariants.{Val, Fail, Range}
use Rattle.ipg_core.specs.Environment.{Values}
use Rattle.std.specs.Prelude.{ℤ}

-- why there is no tree: none fits, a value leaves 64 bits, or the height does not suffice
pub data Stop : Type 0 where
  NoTree : Stop
  OutOfRange : Stop
  Deep : Stop

-- a call: where it stands in its rule, the rule called, the interval in the part at hand, the holder's attributes passed
pub record Asked : Type 0 where
  pub alt : ℕ
  pub term : ℕ
  pub branch : ℕ
  pub callee : ℕ
  pub from : ℕ
  pub to : ℕ
  pub outer : Values

pub record Run (A : Type 0) : Type 0 where
  pub answer : Result A Stop
  pub asked : List Asked

unfoldable pub finish : {A : Type 0} → A → Run A
finish a = record { answer = Ok a; asked = [] }

unfoldable pub stop : {A : Type 0} → Stop → Run A
stop why = record { answer = Err why; asked = [] }

-- the calls made before, then those of the run
unfoldable pub after : {A : Type 0} → List Asked → Run A → Run A
after asked run = record { answer = run.answer; asked = asked ++ run.asked }

unfoldable pub go_on : {A B : Type 0} → Result A Stop → (A → Run B) → Run B
go_on (Ok a) go = go a
go_on (Err why) go = stop why

-- one run, then what its value leads to
infixl 10 ◌>>=◌
unfoldable pub ◌>>=◌ : {A B : Type 0} → Run A → (A → Run B) → Run B
run >>= go = after run.asked (go_on run.answer go)

-- the first of two that answers other than NoTree
unfoldable pub or_next : {A : Type 0} → Result A Stop → Run A → Run A
or_next (Err NoTree) next = next
or_next (Ok a) next = finish a
or_next (Err OutOfRange) next = stop OutOfRange
or_next (Err Deep) next = stop Deep

unfoldable pub or_else : {A : Type 0} → Run A → Run A → Run A
or_else run next = after run.asked (or_next run.answer next)

-- the value of an expression; Fail is NoTree
abbrev pub value_of : Answer → Run ℤ
value_of (Val z) = finish z
value_of Fail = stop NoTree
value_of Range = stop OutOfRange

-- what is there, else NoTree
abbrev pub some_of : {A : Type 0} → Option A → Run A
some_of (Some a) = finish a
some_of None = stop NoTree
