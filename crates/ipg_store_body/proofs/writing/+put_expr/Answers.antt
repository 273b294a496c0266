use Rattle.std.proofs.Common.{◌<◌, ◌^◌, rules, ◌∷◌, ◌++◌, ap, sym, ◌∙◌, SFits, w64}
use Rattle.std.proofs.lemmas.Int.{to_z-of_z}
use Rattle.ipg_reader.specs.Laws.{signed_text}
use Rattle.ipg_store_body.specs.Format.{expr_text}
use Rattle.ipg_core.specs.declared.grammar.CoreExpr.TheOpen.{CoreExpr-F}
use Rattle.ipg_core.specs.declared.grammar.CoreExpr.TheVariants as core
use Rattle.ipg_store_body.proofs.Exprs.{text_is, fits_by, signed_fits}
use Rattle.ipg_store_body.proofs.Written.{two, three, four}
use Rattle.ipg_store_body.proofs.writing.+put_expr.Goals as goal

pub put_expr-returns-in_ok-put_signed-in-Num-clause-text : goal.put_expr-returns-in_ok-put_signed-in-Num-clause-text
put_expr-returns-in_ok-put_signed-in-Num-clause-text t c =
    let fits : SFits w64 c.in-Num.value = search rules in
    two _ _ _ _ _ c.in_ok-put_byte-in-Num.ensures c.in_ok-put_signed-in-Num.ensures
    ∙ ap (λ z. c.args.out.now.items ++ 0 ∷ signed_text z) (to_z-of_z w64 c.in-Num.value fits)
    ∙ ap (λ w. c.args.out.now.items ++ w) (sym (text_is (CoreExpr-F.Num c.in-Num.value) c.args.e.now (core.rolls-Num c.in-Num.value ∙ sym c.in-Num.is)))

pub put_expr-returns-in_ok-put_byte-in-Eoi-clause-text : goal.put_expr-returns-in_ok-put_byte-in-Eoi-clause-text
put_expr-returns-in_ok-put_byte-in-Eoi-clause-text t c =
    c.in_ok-put_byte-in-Eoi.ensures
    ∙ ap (λ w. c.args.out.now.items ++ w) (sym (text_is CoreExpr-F.Eoi c.args.e.now (core.rolls-Eoi ∙ sym c.in-Eoi.is)))

pub put_expr-returns-in_ok-put_short-in-Own-clause-text : goal.put_expr-returns-in_ok-put_short-in-Own-clause-text
put_expr-returns-in_ok-put_short-in-Own-clause-text t c =
    two _ _ _ _ _ c.in_ok-put_byte-in-Own.ensures c.in_ok-put_short-in-Own.ensures
    ∙ ap (λ w. c.args.out.now.items ++ w) (sym (text_is (CoreExpr-F.Own c.in-Own.attr) c.args.e.now (core.rolls-Own c.in-Own.attr ∙ sym c.in-Own.is)))

pub put_expr-returns-in_ok-put_short-in-Outer-clause-text : goal.put_expr-returns-in_ok-put_short-in-Outer-clause-text
put_expr-returns-in_ok-put_short-in-Outer-clause-text t c =
    two _ _ _ _ _ c.in_ok-put_byte-in-Outer.ensures c.in_ok-put_short-in-Outer.ensures
    ∙ ap (λ w. c.args.out.now.items ++ w) (sym (text_is (CoreExpr-F.Outer c.in-Outer.attr) c.args.e.now (core.rolls-Outer c.in-Outer.attr ∙ sym c.in-Outer.is)))

pub put_expr-returns-in_ok-put_byte-in-Loop-clause-text : goal.put_expr-returns-in_ok-put_byte-in-Loop-clause-text
put_expr-returns-in_ok-put_byte-in-Loop-clause-text t c =
    c.in_ok-put_byte-in-Loop.ensures
    ∙ ap (λ w. c.args.out.now.items ++ w) (sym (text_is CoreExpr-F.Loop c.args.e.now (core.rolls-Loop ∙ sym c.in-Loop.is)))

pub put_expr-returns-in_ok-put_field-in-Seen-clause-text : goal.put_expr-returns-in_ok-put_field-in-Seen-clause-text
put_expr-returns-in_ok-put_field-in-Seen-clause-text t c =
    four _ _ _ _ _ _ _ _ _ c.in_ok-put_byte-in-Seen.ensures c.in_ok-put_short-in-Seen.ensures c.in_ok-put_sym-in-Seen.ensures.text
    c.in_ok-put_field-in-Seen.ensures.text
    ∙ ap (λ w. c.args.out.now.items ++ w)
    (sym (text_is (CoreExpr-F.Seen c.in-Seen.term c.in-Seen.sym c.in-Seen.field) c.args.e.now
    (core.rolls-Seen c.in-Seen.term c.in-Seen.sym c.in-Seen.field ∙ sym c.in-Seen.is)))

pub put_expr-returns-in_ok-put_field-in-Item-clause-text : goal.put_expr-returns-in_ok-put_field-in-Item-clause-text
put_expr-returns-in_ok-put_field-in-Item-clause-text t c =
    four _ _ _ _ _ _ _ _ _ c.in_ok-put_byte-in-Item.ensures c.in_ok-put_short-in-Item.ensures c.in_ok-put_part-in-Item.ensures.text
    c.in_ok-put_field-in-Item.ensures.text
    ∙ ap (λ w. c.args.out.now.items ++ w)
    (sym (text_is (CoreExpr-F.Item c.in-Item.term c.in-Item.index c.in-Item.field) c.args.e.now
    (core.rolls-Item c.in-Item.term c.in-Item.index c.in-Item.field ∙ sym c.in-Item.is)))

pub put_expr-returns-in_ok-put_part-in-After-clause-text : goal.put_expr-returns-in_ok-put_part-in-After-clause-text
put_expr-returns-in_ok-put_part-in-After-clause-text t c =
    three _ _ _ _ _ _ _ c.in_ok-put_byte-in-After.ensures c.in_ok-put_short-in-After.ensures c.in_ok-put_part-in-After.ensures.text
    ∙ ap (λ w. c.args.out.now.items ++ w)
    (sym (text_is (CoreExpr-F.After c.in-After.term c.in-After.left) c.args.e.now
    (core.rolls-After c.in-After.term c.in-After.left ∙ sym c.in-After.is)))

pub put_expr-returns-in_ok-put_part-in-Neg-clause-text : goal.put_expr-returns-in_ok-put_part-in-Neg-clause-text
put_expr-returns-in_ok-put_part-in-Neg-clause-text t c =
    two _ _ _ _ _ c.in_ok-put_byte-in-Neg.ensures c.in_ok-put_part-in-Neg.ensures.text
    ∙ ap (λ w. c.args.out.now.items ++ w) (sym (text_is (CoreExpr-F.Neg c.in-Neg.a) c.args.e.now (core.rolls-Neg c.in-Neg.a ∙ sym c.in-Neg.is)))

pub put_expr-returns-in_ok-put_part-in-Not-clause-text : goal.put_expr-returns-in_ok-put_part-in-Not-clause-text
put_expr-returns-in_ok-put_part-in-Not-clause-text t c =
    two _ _ _ _ _ c.in_ok-put_byte-in-Not.ensures c.in_ok-put_part-in-Not.ensures.text
    ∙ ap (λ w. c.args.out.now.items ++ w) (sym (text_is (CoreExpr-F.Not c.in-Not.a) c.args.e.now (core.rolls-Not c.in-Not.a ∙ sym c.in-Not.is)))

pub put_expr-returns-in_ok-put_part-in-Two-2-clause-text : goal.put_expr-returns-in_ok-put_part-in-Two-2-clause-text
put_expr-returns-in_ok-put_part-in-Two-2-clause-text t c =
    four _ _ _ _ _ _ _ _ _ c.in_ok-put_byte-in-Two.ensures c.in_ok-put_byte-in-Two-2.ensures c.in_ok-put_part-in-Two.ensures.text
    c.in_ok-put_part-in-Two-2.ensures.text
    ∙ ap (λ n. c.args.out.now.items ++ 10 ∷ n ∷ (expr_text c.in-Two.a ++ expr_text c.in-Two.b)) c.operator_byte.ensures
    ∙ ap (λ w. c.args.out.now.items ++ w)
    (sym (text_is (CoreExpr-F.Two c.in-Two.op c.in-Two.a c.in-Two.b) c.args.e.now
    (core.rolls-Two c.in-Two.op c.in-Two.a c.in-Two.b ∙ sym c.in-Two.is)))

pub put_expr-returns-in_ok-put_part-in-Both-2-clause-text : goal.put_expr-returns-in_ok-put_part-in-Both-2-clause-text
put_expr-returns-in_ok-put_part-in-Both-2-clause-text t c =
    three _ _ _ _ _ _ _ c.in_ok-put_byte-in-Both.ensures c.in_ok-put_part-in-Both.ensures.text c.in_ok-put_part-in-Both-2.ensures.text
    ∙ ap (λ w. c.args.out.now.items ++ w)
    (sym (text_is (CoreExpr-F.Both c.in-Both.a c.in-Both.b) c.args.e.now
    (core.rolls-Both c.in-Both.a c.in-Both.b ∙ sym c.in-Both.is)))

pub put_expr-returns-in_ok-put_part-in-Either-2-clause-text : goal.put_expr-returns-in_ok-put_part-in-Either-2-clause-text
put_expr-returns-in_ok-put_part-in-Either-2-clause-text t c =
    three _ _ _ _ _ _ _ c.in_ok-put_byte-in-Either.ensures c.in_ok-put_part-in-Either.ensures.text c.in_ok-put_part-in-Either-2.ensures.text
    ∙ ap (λ w. c.args.out.now.items ++ w)
    (sym (text_is (CoreExpr-F.Either c.in-Either.a c.in-Either.b) c.args.e.now
    (core.rolls-Either c.in-Either.a c.in-Either.b ∙ sym c.in-Either.is)))

pub put_expr-returns-in_ok-put_part-in-Cond-3-clause-text : goal.put_expr-returns-in_ok-put_part-in-Cond-3-clause-text
put_expr-returns-in_ok-put_part-in-Cond-3-clause-text t c =
    four _ _ _ _ _ _ _ _ _ c.in_ok-put_byte-in-Cond.ensures c.in_ok-put_part-in-Cond.ensures.text c.in_ok-put_part-in-Cond-2.ensures.text
    c.in_ok-put_part-in-Cond-3.ensures.text
    ∙ ap (λ w. c.args.out.now.items ++ w)
    (sym (text_is (CoreExpr-F.Cond c.in-Cond.c c.in-Cond.a c.in-Cond.b) c.args.e.now
    (core.rolls-Cond c.in-Cond.c c.in-Cond.a c.in-Cond.b ∙ sym c.in-Cond.is)))

pub put_expr-returns-in_ok-put_signed-in-Num-clause-fits : goal.put_expr-returns-in_ok-put_signed-in-Num-clause-fits
put_expr-returns-in_ok-put_signed-in-Num-clause-fits t c =
    let is : SFits w64 c.in-Num.value = search rules in
    fits_by (CoreExpr-F.Num c.in-Num.value) c.args.e.now
    (core.rolls-Num c.in-Num.value ∙ sym c.in-Num.is)
    (λ d nests. signed_fits c.in-Num.value is)

pub put_expr-returns-in_ok-put_byte-in-Eoi-clause-fits : goal.put_expr-returns-in_ok-put_byte-in-Eoi-clause-fits
put_expr-returns-in_ok-put_byte-in-Eoi-clause-fits t c =
    fits_by CoreExpr-F.Eoi c.args.e.now
    (core.rolls-Eoi ∙ sym c.in-Eoi.is)
    (λ d nests. tt)

pub put_expr-returns-in_ok-put_short-in-Own-clause-fits : goal.put_expr-returns-in_ok-put_short-in-Own-clause-fits
put_expr-returns-in_ok-put_short-in-Own-clause-fits t c =
    let is : c.in-Own.attr < 2 ^ 32 = search rules in
    fits_by (CoreExpr-F.Own c.in-Own.attr) c.args.e.now
    (core.rolls-Own c.in-Own.attr ∙ sym c.in-Own.is)
    (λ d nests. is)

pub put_expr-returns-in_ok-put_short-in-Outer-clause-fits : goal.put_expr-returns-in_ok-put_short-in-Outer-clause-fits
put_expr-returns-in_ok-put_short-in-Outer-clause-fits t c =
    let is : c.in-Outer.attr < 2 ^ 32 = search rules in
    fits_by (CoreExpr-F.Outer c.in-Outer.attr) c.args.e.now
    (core.rolls-Outer c.in-Outer.attr ∙ sym c.in-Outer.is)
    (λ d nests. is)

pub put_expr-returns-in_ok-put_byte-in-Loop-clause-fits : goal.put_expr-returns-in_ok-put_byte-in-Loop-clause-fits
put_expr-returns-in_ok-put_byte-in-Loop-clause-fits t c =
    fits_by CoreExpr-F.Loop c.args.e.now
    (core.rolls-Loop ∙ sym c.in-Loop.is)
    (λ d nests. tt)

pub put_expr-returns-in_ok-put_field-in-Seen-clause-fits : goal.put_expr-returns-in_ok-put_field-in-Seen-clause-fits
put_expr-returns-in_ok-put_field-in-Seen-clause-fits t c =
    let is : c.in-Seen.term < 2 ^ 32 = search rules in
    fits_by (CoreExpr-F.Seen c.in-Seen.term c.in-Seen.sym c.in-Seen.field) c.args.e.now
    (core.rolls-Seen c.in-Seen.term c.in-Seen.sym c.in-Seen.field ∙ sym c.in-Seen.is)
    (λ d nests. (is, (c.in_ok-put_sym-in-Seen.ensures.fits, c.in_ok-put_field-in-Seen.ensures.fits)))

pub put_expr-returns-in_ok-put_field-in-Item-clause-fits : goal.put_expr-returns-in_ok-put_field-in-Item-clause-fits
put_expr-returns-in_ok-put_field-in-Item-clause-fits t c =
    let is : c.in-Item.term < 2 ^ 32 = search rules in
    fits_by (CoreExpr-F.Item c.in-Item.term c.in-Item.index c.in-Item.field) c.args.e.now
    (core.rolls-Item c.in-Item.term c.in-Item.index c.in-Item.field ∙ sym c.in-Item.is)
    (λ d nests. (is, (c.in_ok-put_part-in-Item.ensures.fits d nests, c.in_ok-put_field-in-Item.ensures.fits)))

pub put_expr-returns-in_ok-put_part-in-After-clause-fits : goal.put_expr-returns-in_ok-put_part-in-After-clause-fits
put_expr-returns-in_ok-put_part-in-After-clause-fits t c =
    let is : c.in-After.term < 2 ^ 32 = search rules in
    fits_by (CoreExpr-F.After c.in-After.term c.in-After.left) c.args.e.now
    (core.rolls-After c.in-After.term c.in-After.left ∙ sym c.in-After.is)
    (λ d nests. (is, c.in_ok-put_part-in-After.ensures.fits d nests))

pub put_expr-returns-in_ok-put_part-in-Neg-clause-fits : goal.put_expr-returns-in_ok-put_part-in-Neg-clause-fits
put_expr-returns-in_ok-put_part-in-Neg-clause-fits t c =
    fits_by (CoreExpr-F.Neg c.in-Neg.a) c.args.e.now
    (core.rolls-Neg c.in-Neg.a ∙ sym c.in-Neg.is)
    (λ d nests. c.in_ok-put_part-in-Neg.ensures.fits d nests)

pub put_expr-returns-in_ok-put_part-in-Not-clause-fits : goal.put_expr-returns-in_ok-put_part-in-Not-clause-fits
put_expr-returns-in_ok-put_part-in-Not-clause-fits t c =
    fits_by (CoreExpr-F.Not c.in-Not.a) c.args.e.now
    (core.rolls-Not c.in-Not.a ∙ sym c.in-Not.is)
    (λ d nests. c.in_ok-put_part-in-Not.ensures.fits d nests)

pub put_expr-returns-in_ok-put_part-in-Two-2-clause-fits : goal.put_expr-returns-in_ok-put_part-in-Two-2-clause-fits
put_expr-returns-in_ok-put_part-in-Two-2-clause-fits t c =
    fits_by (CoreExpr-F.Two c.in-Two.op c.in-Two.a c.in-Two.b) c.args.e.now
    (core.rolls-Two c.in-Two.op c.in-Two.a c.in-Two.b ∙ sym c.in-Two.is)
    (λ d nests. (c.in_ok-put_part-in-Two.ensures.fits d nests.0, c.in_ok-put_part-in-Two-2.ensures.fits d nests.1))

pub put_expr-returns-in_ok-put_part-in-Both-2-clause-fits : goal.put_expr-returns-in_ok-put_part-in-Both-2-clause-fits
put_expr-returns-in_ok-put_part-in-Both-2-clause-fits t c =
    fits_by (CoreExpr-F.Both c.in-Both.a c.in-Both.b) c.args.e.now
    (core.rolls-Both c.in-Both.a c.in-Both.b ∙ sym c.in-Both.is)
    (λ d nests. (c.in_ok-put_part-in-Both.ensures.fits d nests.0, c.in_ok-put_part-in-Both-2.ensures.fits d nests.1))

pub put_expr-returns-in_ok-put_part-in-Either-2-clause-fits : goal.put_expr-returns-in_ok-put_part-in-Either-2-clause-fits
put_expr-returns-in_ok-put_part-in-Either-2-clause-fits t c =
    fits_by (CoreExpr-F.Either c.in-Either.a c.in-Either.b) c.args.e.now
    (core.rolls-Either c.in-Either.a c.in-Either.b ∙ sym c.in-Either.is)
    (λ d nests. (c.in_ok-put_part-in-Either.ensures.fits d nests.0, c.in_ok-put_part-in-Either-2.ensures.fits d nests.1))

pub put_expr-returns-in_ok-put_part-in-Cond-3-clause-fits : goal.put_expr-returns-in_ok-put_part-in-Cond-3-clause-fits
put_expr-returns-in_ok-put_part-in-Cond-3-clause-fits t c =
    fits_by (CoreExpr-F.Cond c.in-Cond.c c.in-Cond.a c.in-Cond.b) c.args.e.now
    (core.rolls-Cond c.in-Cond.c c.in-Cond.a c.in-Cond.b ∙ sym c.in-Cond.is)
    (λ d nests. (
      c.in_ok-put_part-in-Cond.ensures.fits d nests.0,
      (c.in_ok-put_part-in-Cond-2.ensures.fits d nests.1.0, c.in_ok-put_part-in-Cond-3.ensures.fits d nests.1.1),
    ))
