use Rattle.std.proofs.Common.{rules, ◌∷◌, ◌++◌, []}
use Rattle.ipg_ast.proofs.Exprs.{text}
use Rattle.ipg_ast.proofs.Forms.{set_text}
use Rattle.ipg_ast.proofs.Texts.{Wrote, then, finally}
use Rattle.ipg_ast.proofs.text.put_set.Goals as goal

pub returns : goal.returns
returns c =
    let a : Wrote c.args.out.now.items (123 ∷ 32 ∷ []) c.put.new.out.items = record { is = search rules } in
    let b : Wrote c.put.new.out.items (c.args.name.now.name ++ (32 ∷ [])) c.put-2.new.out.items = record { is = search rules } in
    let d : Wrote c.put-2.new.out.items (61 ∷ 32 ∷ []) c.put-3.new.out.items = record { is = search rules } in
    let e : Wrote c.put-3.new.out.items (text c.args.value.now) c.put_expr.new.out.items = record { is = search rules } in
    finally _ _ _ _ (then (then (then a b) d) e) (set_text c.args.name.now c.args.value.now) c.put-4.ensures
