use Rattle.std.proofs.Common.{rules, ◌≡◌, ap, ◌∙◌, sym}
use Rattle.ipg_ast.specs.declared.grammar.Expr.TheVariants.{Item, Two, Both, Either, Cond}
use Rattle.ipg_ast.specs.declared.grammar.Expr.TheViews.{the_lemmas}
use Rattle.ipg_names.specs.Fault.{first_of}
use Rattle.ipg_names.specs.Faults.{expr_faults, faults_step, reference_fault}
use Rattle.ipg_names_scope.specs.Scope.{Scope}
use Rattle.ipg_names_scope.specs.Site.{spot_scope}
use Rattle.ipg_ast.specs.Folds.{at_item, at_two, at_both, at_either, at_cond}
use Rattle.ipg_names.proofs.Firsts.{First, join}
use Rattle.ipg_names.proofs.faults.+expr_fault.Goals as goal

pub returns-in-Item : goal.returns-in-Item
returns-in-Item t c =
    let scope : Scope = spot_scope c.args.spot.now in
    let index : First c.expr_fault-index.result (expr_faults scope c.get.result.now) = record { is = c.expr_fault-index.ensures } in
    let called : First c.reference_fault-in-Item.result (reference_fault scope (scope.items c.in-Item.of.name) c.in-Item.of c.in-Item.field) = record {
      is = c.reference_fault-in-Item.ensures ∙ ap (λ r. first_of (reference_fault scope r c.in-Item.of c.in-Item.field)) (c.items_at-referred.ensures
          ∙ ap scope.items c.as_slice-in-Item.ensures);
    } in
    let shape : c.args.e.now ≡ Item c.in-Item.of c.get.result.now c.in-Item.field = search (rules, the_lemmas) in
    let whole = join c.earlier.result index called c.earlier.ensures in
    whole.is ∙ ap first_of (sym (at_item (faults_step scope) _ _ _) ∙ ap (expr_faults scope) (sym shape))

pub returns-in-Two : goal.returns-in-Two
returns-in-Two t c =
    let scope : Scope = spot_scope c.args.spot.now in
    let left : First c.expr_fault-in-Two.result (expr_faults scope c.get-in-Two.result.now) = record { is = c.expr_fault-in-Two.ensures } in
    let right : First c.expr_fault-in-Two-2.result (expr_faults scope c.get-in-Two-2.result.now) = record { is = c.expr_fault-in-Two-2.ensures } in
    let shape : c.args.e.now ≡ Two c.in-Two.field-0 c.get-in-Two.result.now c.get-in-Two-2.result.now = search (rules, the_lemmas) in
    let whole = join c.earlier-in-Two.result left right c.earlier-in-Two.ensures in
    whole.is ∙ ap first_of (sym (at_two (faults_step scope) _ _ _) ∙ ap (expr_faults scope) (sym shape))

pub returns-in-Both : goal.returns-in-Both
returns-in-Both t c =
    let scope : Scope = spot_scope c.args.spot.now in
    let left : First c.expr_fault-in-Both.result (expr_faults scope c.get-in-Both.result.now) = record { is = c.expr_fault-in-Both.ensures } in
    let right : First c.expr_fault-in-Both-2.result (expr_faults scope c.get-in-Both-2.result.now) = record { is = c.expr_fault-in-Both-2.ensures } in
    let shape : c.args.e.now ≡ Both c.get-in-Both.result.now c.get-in-Both-2.result.now = search (rules, the_lemmas) in
    let whole = join c.earlier-in-Both.result left right c.earlier-in-Both.ensures in
    whole.is ∙ ap first_of (sym (at_both (faults_step scope) _ _) ∙ ap (expr_faults scope) (sym shape))

pub returns-in-Either : goal.returns-in-Either
returns-in-Either t c =
    let scope : Scope = spot_scope c.args.spot.now in
    let left : First c.expr_fault-in-Either.result (expr_faults scope c.get-in-Either.result.now) = record { is = c.expr_fault-in-Either.ensures } in
    let right : First c.expr_fault-in-Either-2.result (expr_faults scope c.get-in-Either-2.result.now) = record { is = c.expr_fault-in-Either-2.ensures } in
    let shape : c.args.e.now ≡ Either c.get-in-Either.result.now c.get-in-Either-2.result.now = search (rules, the_lemmas) in
    let whole = join c.earlier-in-Either.result left right c.earlier-in-Either.ensures in
    whole.is ∙ ap first_of (sym (at_either (faults_step scope) _ _) ∙ ap (expr_faults scope) (sym shape))

pub returns-in-Cond : goal.returns-in-Cond
returns-in-Cond t c =
    let scope : Scope = spot_scope c.args.spot.now in
    let test : First c.expr_fault-cond.result (expr_faults scope c.get-in-Cond.result.now) = record { is = c.expr_fault-cond.ensures } in
    let left : First c.expr_fault-a.result (expr_faults scope c.get-in-Cond-2.result.now) = record { is = c.expr_fault-a.ensures } in
    let right : First c.expr_fault-in-Cond.result (expr_faults scope c.get-in-Cond-3.result.now) = record { is = c.expr_fault-in-Cond.ensures } in
    let shape : c.args.e.now ≡ Cond c.get-in-Cond.result.now c.get-in-Cond-2.result.now c.get-in-Cond-3.result.now = search (rules, the_lemmas) in
    let whole = join c.earlier-in-Cond-2.result test (join c.earlier-in-Cond.result left right c.earlier-in-Cond.ensures) c.earlier-in-Cond-2.ensures in
    whole.is ∙ ap first_of (sym (at_cond (faults_step scope) _ _ _) ∙ ap (expr_faults scope) (sym shape))
