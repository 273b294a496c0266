use Rattle.std.proofs.Common.{◌+◌, ◌*◌, max}
use Rattle.ipg_ast.specs.declared.grammar.Expr.{size-Expr}
use Rattle.ipg_ast.proofs.text.+putting.Given as goal

-- an expression, and two with a sign between them
abbrev pub decreases-put_expr : goal.decreases-put_expr
decreases-put_expr l = 2 * size-Expr l.e.now

abbrev pub decreases-put_infix : goal.decreases-put_infix
decreases-put_infix l = 2 * max (size-Expr l.a.now) (size-Expr l.b.now) + 1
