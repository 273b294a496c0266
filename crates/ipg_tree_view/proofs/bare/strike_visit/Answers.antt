use Rattle.std.proofs.Common.{◌&&◌, not, sym, ap, ◌∙◌, subst, get_or, true}
use Rattle.std.specs.Prelude.{slice_get}
use Rattle.ipg_tree_view.specs.Bare.{is_among, end_of}
use Rattle.ipg_tree_view.proofs.Walked.{IsInnerRow, leaf_has, inner_has}
use Rattle.ipg_tree_view.proofs.bare.strike_visit.Goals as goal

pub returns-in-Text-clause-struck : goal.returns-in-Text-clause-struck
returns-in-Text-clause-struck c src st one place syms shows short =
    c.strike.ensures.struck place short
    ∙ ap (λ b. get_or c.args.bare.now place true && not b) (ap (λ e. is_among c.args.visit.from e place) c.end_of-end.ensures
    ∙ leaf_has src st c.text_size.result c.args.visit place one _ c.in-Text.is tt
    (λ bytes is. c.text_size.ensures bytes (ap (λ s. slice_get s c.in-Text.sym) (sym syms) ∙ is)) shows)

pub returns-in-Number-clause-struck : goal.returns-in-Number-clause-struck
returns-in-Number-clause-struck c src st one place syms shows short =
    let visit = c.args.visit in
    c.strike-in-Number.ensures.struck place short
    ∙ ap (λ b. get_or c.args.bare.now place true && not b)
    (ap (λ e. is_among visit.from e place) (c.end_of-end-in-Number.ensures ∙ ap (end_of visit.from visit.to) (c.from.ensures ∙ c.width.ensures.value))
    ∙ leaf_has src st 0 visit place one _ c.in-Number.is tt tt shows)

pub returns-in-Raw-clause-struck : goal.returns-in-Raw-clause-struck
returns-in-Raw-clause-struck c src st one place syms shows short =
    c.strike-in-Raw.ensures.struck place short
    ∙ ap (λ b. get_or c.args.bare.now place true && not b) (leaf_has src st 0 c.args.visit place one _ c.in-Raw.is tt tt shows)

pub returns-in-Node-clause-struck : goal.returns-in-Node-clause-struck
returns-in-Node-clause-struck c src st one place syms shows short =
    inner_has src st c.args.visit one place (get_or c.args.bare.now place true) (subst IsInnerRow (sym c.in-Node.is) tt) shows

pub returns-in-Array-clause-struck : goal.returns-in-Array-clause-struck
returns-in-Array-clause-struck c src st one place syms shows short =
    inner_has src st c.args.visit one place (get_or c.args.bare.now place true) (subst IsInnerRow (sym c.in-Array.is) tt) shows

pub returns-in-Many-clause-struck : goal.returns-in-Many-clause-struck
returns-in-Many-clause-struck c src st one place syms shows short =
    inner_has src st c.args.visit one place (get_or c.args.bare.now place true) (subst IsInnerRow (sym c.in-Many.is) tt) shows
