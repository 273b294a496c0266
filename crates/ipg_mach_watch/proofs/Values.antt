-- The value of an expression, by the run that gives it.
use Rattle.std.proofs.Common.{◌≡◌, refl, sym, ap, ◌∙◌, Option, Result, Ok, Err, ℤ}
use Rattle.ipg_num.specs.declared.op.Answer.{Answer}
use Rattle.ipg_num.specs.declared.op.Answer.TheVariants.{Val, Fail, Range}
use Rattle.ipg_core.specs.declared.grammar.CoreExpr.{CoreExpr}
use Rattle.ipg_core.specs.Eval.{eval}
use Rattle.ipg_core.specs.Run.{Stop, NoTree, OutOfRange, Deep, Run, value_of, finish, stop}
use Rattle.ipg_core.specs.Meaning.{Frame, State, environment, value_in}

abbrev back : Result ℤ Stop → Answer
back (Ok z) = Val z
back (Err NoTree) = Fail
back (Err OutOfRange) = Range
back (Err Deep) = Range

round : (a : Answer) → back (value_of a).answer ≡ a
unfolding finish stop
round (Val z) = refl
round Fail = refl
round Range = refl

same_answer : (a b : Answer) → value_of a ≡ value_of b → a ≡ b
same_answer a b e = sym (round a) ∙ ap (λ (r : Run ℤ). back r.answer) e ∙ round b

pub eval_is : (f : Frame) (state : State) (item : Option ℤ) (e : CoreExpr) (a : Answer) → value_in f state item e ≡ value_of a
    → eval e (environment f state item) ≡ a
unfolding value_in
eval_is f state item e a is = same_answer (eval e (environment f state item)) a is
