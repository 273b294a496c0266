use Rattle.std.proofs.Common.{rules, ◌≡◌, ◌∷◌, ◌++◌, [], ap, ◌∙◌, sym}
use Rattle.ipg_ast.specs.Spelling.{term_tokens}
use Rattle.ipg_ast.specs.Canonical.{tokens_text}
use Rattle.ipg_ast.specs.declared.grammar.Term.TheVariants.{Repeat}
use Rattle.ipg_ast.proofs.Exprs.{text}
use Rattle.ipg_ast.proofs.Forms.{repeat_text}
use Rattle.ipg_ast.proofs.Texts.{Wrote, then, finally}
use Rattle.ipg_ast.proofs.text.put_term.Goals as goal

pub returns-in_ok-put-in-Repeat-6 : goal.returns-in_ok-put-in-Repeat-6
returns-in_ok-put-in-Repeat-6 c =
    let a : Wrote c.args.out.now.items (102 ∷ 111 ∷ 114 ∷ 32 ∷ []) c.put.new.out.items = record { is = search rules } in
    let b : Wrote c.put.new.out.items (c.in-Repeat.var.name ++ (32 ∷ [])) c.put-in-Repeat.new.out.items = record { is = search rules } in
    let d : Wrote c.put-in-Repeat.new.out.items (61 ∷ 32 ∷ []) c.put-in-Repeat-2.new.out.items = record { is = search rules } in
    let e : Wrote c.put-in-Repeat-2.new.out.items (text c.in-Repeat.first) c.put_expr.new.out.items = record { is = search rules } in
    let f : Wrote c.put_expr.new.out.items (116 ∷ 111 ∷ 32 ∷ []) c.put-in-Repeat-3.new.out.items = record { is = search rules } in
    let g : Wrote c.put-in-Repeat-3.new.out.items (text c.in-Repeat.last) c.put_expr-in-Repeat.new.out.items = record { is = search rules } in
    let h : Wrote c.put_expr-in-Repeat.new.out.items (100 ∷ 111 ∷ 32 ∷ []) c.put-in-Repeat-4.new.out.items = record { is = search rules } in
    let i : Wrote c.put-in-Repeat-4.new.out.items (c.in-Repeat.item.name ++ (32 ∷ [])) c.put-in-Repeat-5.new.out.items = record { is = search rules } in
    let shape : c.args.term.now ≡ Repeat c.in-Repeat.var c.in-Repeat.first c.in-Repeat.last c.in-Repeat.item c.in-Repeat.from c.in-Repeat.to = search rules in
    finally _ _ _ _ (then (then (then (then (then (then (then a b) d) e) f) g) h) i)
    (repeat_text c.in-Repeat.var c.in-Repeat.item c.in-Repeat.first c.in-Repeat.last c.in-Repeat.from c.in-Repeat.to
    ∙ ap (λ t. tokens_text (term_tokens t)) (sym shape)) c.put_ends.ensures
