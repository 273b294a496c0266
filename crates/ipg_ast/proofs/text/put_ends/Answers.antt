use Rattle.std.proofs.Common.{rules, ◌∷◌, []}
use Rattle.ipg_ast.proofs.Exprs.{text}
use Rattle.ipg_ast.proofs.Forms.{ends_text}
use Rattle.ipg_ast.proofs.Texts.{Wrote, then, finally}
use Rattle.ipg_ast.proofs.text.put_ends.Goals as goal

pub returns : goal.returns
returns c =
    let a : Wrote c.args.out.now.items (91 ∷ 32 ∷ []) c.put.new.out.items = record { is = search rules } in
    let b : Wrote c.put.new.out.items (text c.args.left.now) c.put_expr.new.out.items = record { is = search rules } in
    let d : Wrote c.put_expr.new.out.items (44 ∷ 32 ∷ []) c.put-2.new.out.items = record { is = search rules } in
    let e : Wrote c.put-2.new.out.items (text c.args.right.now) c.put_expr-2.new.out.items = record { is = search rules } in
    finally _ _ _ _ (then (then (then a b) d) e) (ends_text _ _) c.put-3.ensures
