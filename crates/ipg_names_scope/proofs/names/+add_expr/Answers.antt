use Rattle.std.proofs.Common.{rules, ◌≡◌, ap, ◌∙◌, sym, append_assoc}
use Rattle.ipg_ast.specs.declared.grammar.Expr.TheVariants.{Item, Two, Both, Either, Cond}
use Rattle.ipg_ast.specs.declared.grammar.Expr.TheViews.{the_lemmas}
use Rattle.ipg_names_scope.specs.Names.{expr_names, names_step}
use Rattle.ipg_names_scope.specs.Lookup.{shown}
use Rattle.ipg_ast.specs.Folds.{at_item, at_two, at_both, at_either, at_cond}
use Rattle.ipg_names_scope.proofs.Once.{Put, then, finally}
use Rattle.ipg_names_scope.proofs.names.+add_expr.Goals as goal

pub returns-in_ok-add_expr-in-Item : goal.returns-in_ok-add_expr-in-Item
returns-in_ok-add_expr-in-Item t c =
    let first : Put (shown c.args.names.now) (expr_names c.get.result.now) (shown c.add_expr.new.names) = record { is = c.in_ok-add_expr-in-Item.ensures } in
    let shape : c.args.e.now ≡ Item c.in-Item.field-0 c.get.result.now c.in-Item.field = search (rules, the_lemmas) in
    finally _ _ _ _ first (sym (at_item names_step _ _ _) ∙ ap expr_names (sym shape)) c.add_field-in-Item.ensures

pub returns-in_ok-add_expr-in-Two : goal.returns-in_ok-add_expr-in-Two
returns-in_ok-add_expr-in-Two t c =
    let first : Put (shown c.args.names.now) (expr_names c.get-in-Two.result.now) (shown c.add_expr-in-Two.new.names) = record {
      is =
          c.in_ok-add_expr-in-Two.ensures;
    } in
    let shape : c.args.e.now ≡ Two c.in-Two.field-0 c.get-in-Two.result.now c.get-in-Two-2.result.now = search (rules, the_lemmas) in
    finally _ _ _ _ first (sym (at_two names_step _ _ _) ∙ ap expr_names (sym shape)) c.add_expr-in-Two-2.ensures

pub returns-in_ok-add_expr-in-Both : goal.returns-in_ok-add_expr-in-Both
returns-in_ok-add_expr-in-Both t c =
    let first : Put (shown c.args.names.now) (expr_names c.get-in-Both.result.now) (shown c.add_expr-in-Both.new.names) = record {
      is =
          c.in_ok-add_expr-in-Both.ensures;
    } in
    let shape : c.args.e.now ≡ Both c.get-in-Both.result.now c.get-in-Both-2.result.now = search (rules, the_lemmas) in
    finally _ _ _ _ first (sym (at_both names_step _ _) ∙ ap expr_names (sym shape)) c.add_expr-in-Both-2.ensures

pub returns-in_ok-add_expr-in-Either : goal.returns-in_ok-add_expr-in-Either
returns-in_ok-add_expr-in-Either t c =
    let first : Put (shown c.args.names.now) (expr_names c.get-in-Either.result.now) (shown c.add_expr-in-Either.new.names) = record {
      is =
          c.in_ok-add_expr-in-Either.ensures;
    } in
    let shape : c.args.e.now ≡ Either c.get-in-Either.result.now c.get-in-Either-2.result.now = search (rules, the_lemmas) in
    finally _ _ _ _ first (sym (at_either names_step _ _) ∙ ap expr_names (sym shape)) c.add_expr-in-Either-2.ensures

pub returns-in_ok-add_expr-in-Cond-2 : goal.returns-in_ok-add_expr-in-Cond-2
returns-in_ok-add_expr-in-Cond-2 t c =
    let first : Put (shown c.args.names.now) (expr_names c.get-in-Cond.result.now) (shown c.add_expr-in-Cond.new.names) = record {
      is =
          c.in_ok-add_expr-in-Cond.ensures;
    } in
    let second : Put (shown c.add_expr-in-Cond.new.names) (expr_names c.get-in-Cond-2.result.now) (shown c.add_expr-in-Cond-2.new.names) = record {
      is =
          c.in_ok-add_expr-in-Cond-2.ensures;
    } in
    let shape : c.args.e.now ≡ Cond c.get-in-Cond.result.now c.get-in-Cond-2.result.now c.get-in-Cond-3.result.now = search (rules, the_lemmas) in
    let whole = append_assoc (expr_names c.get-in-Cond.result.now) (expr_names c.get-in-Cond-2.result.now) (expr_names c.get-in-Cond-3.result.now) in
    finally _ _ _ _ (then first second) (whole ∙ sym (at_cond names_step _ _ _) ∙ ap expr_names (sym shape)) c.add_expr-in-Cond-3.ensures
