use Rattle.std.proofs.Common.{rules, ◌≡◌, ◌∷◌, ◌++◌, [], ap, ◌∙◌, sym}
use Rattle.ipg_ast.specs.declared.grammar.Expr.TheVariants.{Item, Group, Neg, Not, Two, Both, Either, Cond}
use Rattle.ipg_ast.specs.declared.grammar.Expr.TheViews.{the_lemmas}
use Rattle.ipg_ast.proofs.Exprs.{text, neg_text, not_text, group_text, item_text, two_text, both_text, either_text, cond_text}
use Rattle.ipg_ast.proofs.Texts.{Wrote, then, finally, told_as}
use Rattle.ipg_ast.proofs.text.+putting.Goals as goal

pub put_expr-returns-in_ok-put-in-Neg : goal.put_expr-returns-in_ok-put-in-Neg
put_expr-returns-in_ok-put-in-Neg t c =
    let mark : Wrote c.args.out.now.items (45 ∷ 32 ∷ []) c.put-in-Neg.new.out.items = record { is = search rules } in
    let shape : c.args.e.now ≡ Neg c.get-in-Neg.result.now = search (rules, the_lemmas) in
    finally _ _ _ _ mark (neg_text _ ∙ ap text (sym shape)) c.put_expr-in-Neg.ensures

pub put_expr-returns-in_ok-put-in-Not : goal.put_expr-returns-in_ok-put-in-Not
put_expr-returns-in_ok-put-in-Not t c =
    let mark : Wrote c.args.out.now.items (33 ∷ 32 ∷ []) c.put-in-Not.new.out.items = record { is = search rules } in
    let shape : c.args.e.now ≡ Not c.get-in-Not.result.now = search (rules, the_lemmas) in
    finally _ _ _ _ mark (not_text _ ∙ ap text (sym shape)) c.put_expr-in-Not.ensures

pub put_expr-returns-in_ok-put_expr-in-Group : goal.put_expr-returns-in_ok-put_expr-in-Group
put_expr-returns-in_ok-put_expr-in-Group t c =
    let mark : Wrote c.args.out.now.items (40 ∷ 32 ∷ []) c.put-in-Group.new.out.items = record { is = search rules } in
    let inner : Wrote c.put-in-Group.new.out.items (text c.get-in-Group.result.now) c.put_expr-in-Group.new.out.items = record { is = search rules } in
    let shape : c.args.e.now ≡ Group c.get-in-Group.result.now = search (rules, the_lemmas) in
    finally _ _ _ _ (then mark inner) (group_text _ ∙ ap text (sym shape)) c.put-in-Group-2.ensures

pub put_expr-returns-in-Two : goal.put_expr-returns-in-Two
put_expr-returns-in-Two t c =
    let left = text c.get-in-Two.result.now in
    let right = text c.get-in-Two-2.result.now in
    let shape : c.args.e.now ≡ Two c.in-Two.op c.get-in-Two.result.now c.get-in-Two-2.result.now = search (rules, the_lemmas) in
    told_as _ _ _ _ _ (ap (λ s. (left ++ (s ++ (32 ∷ []))) ++ right) c.sign.ensures ∙ two_text _ _ _ ∙ ap text (sym shape)) c.put_infix.ensures

pub put_expr-returns-in-Both : goal.put_expr-returns-in-Both
put_expr-returns-in-Both t c =
    let shape : c.args.e.now ≡ Both c.get-in-Both.result.now c.get-in-Both-2.result.now = search (rules, the_lemmas) in
    told_as _ _ _ _ _ (both_text _ _ ∙ ap text (sym shape)) c.put_infix-in-Both.ensures

pub put_expr-returns-in-Either : goal.put_expr-returns-in-Either
put_expr-returns-in-Either t c =
    let shape : c.args.e.now ≡ Either c.get-in-Either.result.now c.get-in-Either-2.result.now = search (rules, the_lemmas) in
    told_as _ _ _ _ _ (either_text _ _ ∙ ap text (sym shape)) c.put_infix-in-Either.ensures

pub put_expr-returns-in_ok-put-in-Cond-2 : goal.put_expr-returns-in_ok-put-in-Cond-2
put_expr-returns-in_ok-put-in-Cond-2 t c =
    let if_so : Wrote c.args.out.now.items (text c.get-in-Cond.result.now) c.put_expr-in-Cond.new.out.items = record { is = search rules } in
    let mark : Wrote c.put_expr-in-Cond.new.out.items (63 ∷ 32 ∷ []) c.put-in-Cond.new.out.items = record { is = search rules } in
    let yes : Wrote c.put-in-Cond.new.out.items (text c.get-in-Cond-2.result.now) c.put_expr-in-Cond-2.new.out.items = record { is = search rules } in
    let colon : Wrote c.put_expr-in-Cond-2.new.out.items (58 ∷ 32 ∷ []) c.put-in-Cond-2.new.out.items = record { is = search rules } in
    let shape : c.args.e.now ≡ Cond c.get-in-Cond.result.now c.get-in-Cond-2.result.now c.get-in-Cond-3.result.now = search (rules, the_lemmas) in
    finally _ _ _ _ (then (then (then if_so mark) yes) colon) (cond_text _ _ _ ∙ ap text (sym shape)) c.put_expr-in-Cond-3.ensures

pub put_expr-returns-in_ok-put-in-Item-4 : goal.put_expr-returns-in_ok-put-in-Item-4
put_expr-returns-in_ok-put-in-Item-4 t c =
    let of : Wrote c.args.out.now.items (c.in-Item.of.name ++ (32 ∷ [])) c.put-in-Item.new.out.items = record { is = search rules } in
    let left : Wrote c.put-in-Item.new.out.items (40 ∷ 32 ∷ []) c.put-in-Item-2.new.out.items = record { is = search rules } in
    let index : Wrote c.put-in-Item-2.new.out.items (text c.get.result.now) c.put_expr.new.out.items = record { is = search rules } in
    let right : Wrote c.put_expr.new.out.items (41 ∷ 32 ∷ []) c.put-in-Item-3.new.out.items = record { is = search rules } in
    let dot : Wrote c.put-in-Item-3.new.out.items (46 ∷ 32 ∷ []) c.put-in-Item-4.new.out.items = record { is = search rules } in
    let shape : c.args.e.now ≡ Item c.in-Item.of c.get.result.now c.in-Item.field = search (rules, the_lemmas) in
    finally _ _ _ _ (then (then (then (then of left) index) right) dot) (item_text _ _ _ ∙ ap text (sym shape)) c.put_field.ensures
