use Rattle.std.proofs.Common.{rules, ◌≡◌, ◌∷◌, [], ap, ◌∙◌, sym}
use Rattle.ipg_ast.specs.Spelling.{place_tokens}
use Rattle.ipg_ast.specs.Canonical.{tokens_text}
use Rattle.ipg_ast.specs.declared.grammar.Place.TheVariants.{Length}
use Rattle.ipg_ast.proofs.Exprs.{text}
use Rattle.ipg_ast.proofs.Forms.{length_text}
use Rattle.ipg_ast.proofs.Texts.{Wrote, then, finally}
use Rattle.ipg_ast.proofs.text.put_place.Goals as goal

pub returns-in_ok-put_expr-in-Length : goal.returns-in_ok-put_expr-in-Length
returns-in_ok-put_expr-in-Length c =
    let a : Wrote c.args.out.now.items (91 ∷ 32 ∷ []) c.put.new.out.items = record { is = search rules } in
    let b : Wrote c.put.new.out.items (text c.in-Length.length) c.put_expr.new.out.items = record { is = search rules } in
    let shape : c.args.place.now ≡ Length c.in-Length.length = search rules in
    finally _ _ _ _ (then a b) (length_text _ ∙ ap (λ p. tokens_text (place_tokens p)) (sym shape)) c.put-in-Length.ensures
