use Rattle.std.proofs.Common.{◌∙◌, ap, sym, cond}
use Rattle.ipg_names_scope.specs.declared.marks.TermMark.TheVariants.{Met}
use Rattle.ipg_names_scope.specs.Terms.{has, names_in}
use Rattle.ipg_names_scope.specs.Marks.{look, marked}
use Rattle.ipg_names_scope.proofs.Spots.{marks_once, met_at}
use Rattle.ipg_names_scope.proofs.marks.places.Goals as goal

pub loop-u-preserved : goal.loop-u-preserved
loop-u-preserved c = λ x.
    let term = c.index-terms-u.result in
    let p = has c.args.family x in
    c.in_ok-mark_term.ensures x ∙ marks_once (Met c.loop-u.u) x (names_in c.args.family term) (look c.loop-u.places x)
    ∙ ap (λ s. cond (p term) (marked (Met c.loop-u.u) s) s) (c.loop-u.invariant x)
    ∙ sym (met_at p c.args.terms.now c.loop-u.u term c.index-terms-u.is c.loop-u-test.true)
