use Rattle.std.proofs.Common.{rules, ◌∷◌, []}
use Rattle.ipg_ast.proofs.Exprs.{text}
use Rattle.ipg_ast.proofs.Forms.{test_text}
use Rattle.ipg_ast.proofs.Texts.{Wrote, then, finally}
use Rattle.ipg_ast.proofs.text.put_test.Goals as goal

pub returns : goal.returns
returns c =
    let a : Wrote c.args.out.now.items (63 ∷ 32 ∷ []) c.put.new.out.items = record { is = search rules } in
    let b : Wrote c.put.new.out.items (40 ∷ 32 ∷ []) c.put-2.new.out.items = record { is = search rules } in
    let d : Wrote c.put-2.new.out.items (text c.args.cond.now) c.put_expr.new.out.items = record { is = search rules } in
    finally _ _ _ _ (then (then a b) d) (test_text c.args.cond.now) c.put-3.ensures
