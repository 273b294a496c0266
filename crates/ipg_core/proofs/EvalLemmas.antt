-- The value of an expression by its outermost level.
use Rattle.std.proofs.Common.{◌≡◌, ap}
use Rattle.ipg_core.specs.declared.grammar.CoreExpr.{CoreExpr, fold_out-CoreExpr}
use Rattle.ipg_core.specs.Environment.{Environment}
use Rattle.ipg_core.specs.Eval.{Reading, limited_reading, eval, opened}

pub eval-opened : (e : CoreExpr) (env : Environment) → eval e env ≡ limited_reading (opened e) env
unfolding eval
eval-opened e env = ap (λ f. f env) (fold_out-CoreExpr Reading limited_reading e)
