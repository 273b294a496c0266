use Rattle.std.proofs.Common.{rules, length, ◌==◌, ◌≡◌, ◌∷◌, [], false}
use Rattle.ipg_ast.specs.Spelling.{locals_tokens}
use Rattle.ipg_ast.specs.Canonical.{tokens_text}
use Rattle.ipg_ast.proofs.Forms.{where_text}
use Rattle.ipg_ast.proofs.Texts.{Wrote, then, finally}
use Rattle.ipg_ast.proofs.text.put_where.Goals as goal

pub returns : goal.returns
returns c =
    let a : Wrote c.args.out.now.items (119 ∷ 104 ∷ 101 ∷ 114 ∷ 101 ∷ 32 ∷ []) c.put.new.out.items = record { is = search rules } in
    let b : Wrote c.put.new.out.items (123 ∷ 32 ∷ []) c.put-2.new.out.items = record { is = search rules } in
    let d : Wrote c.put-2.new.out.items (tokens_text (locals_tokens c.args.locals.now)) c.put_locals.new.out.items = record { is = search rules } in
    let some : (length c.args.locals.now == 0) ≡ false = search rules in
    finally _ _ _ _ (then (then a b) d) (where_text _ some) c.put-3.ensures
