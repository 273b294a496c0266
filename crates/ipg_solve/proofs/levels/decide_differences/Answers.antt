use Rattle.std.proofs.Common.{◌≡◌, ℕ, [], ◌∷◌, map, take, ap, sym, subst, ◌∙◌, arith}
use Rattle.ipg_lin.specs.Formula.{width}
use Rattle.ipg_cert.specs.declared.refutation.Step.TheVariants.{Combine}
use Rattle.ipg_solve.specs.Decides.{Solves}
use Rattle.ipg_solve.specs.Edges.{entries_of}
use Rattle.ipg_solve.specs.Widened.{Levels, moved, with_lows}
use Rattle.ipg_solve.proofs.Widened.{widened_solves, widened_checks}
use Rattle.ipg_solve.proofs.levels.decide_differences.Goals as goal

pub returns-in-Values-clause-decided : goal.returns-in-Values-clause-decided
returns-in-Values-clause-decided c =
    let is : c.in_ok-front.front.bounds ≡ take (width c.args.f.now) c.args.b.now.bounds =
    c.in_ok-front.ensures ∙ ap (λ (n : ℕ). take n c.as_slice.result.now) c.width_of-vars.ensures ∙ ap (take (width c.args.f.now)) c.as_slice.ensures in
    let all : c.in_ok-values-in-Values.values ≡ with_lows c.args.b.now.bounds c.in-Values.values = c.in_ok-values-in-Values.ensures
    ∙ ap (λ bs. with_lows bs c.in-Values.values) c.as_slice-in-Values.ensures in
    subst (Solves c.args.f.now c.args.b.now) (sym all)
    (widened_solves c.args.f.now c.args.b.now c.in_ok-front.front c.in-Values.values is c.requires.valued c.requires.full
    (subst (Levels c.args.f.now c.in_ok-front.front) c.in-Values.is c.in_ok-values.ensures))

pub returns-clause-decided : goal.returns-clause-decided
returns-clause-decided c =
    let is : c.in_ok-front.front.bounds ≡ take (width c.args.f.now) c.args.b.now.bounds =
    c.in_ok-front.ensures ∙ ap (λ (n : ℕ). take n c.as_slice.result.now) c.width_of-vars.ensures ∙ ap (take (width c.args.f.now)) c.as_slice.ensures in
    let kept = c.in_ok-kept-in-Facts.kept in
    let more = c.in_ok-more-in-Facts.more in
    widened_checks c.args.f.now c.args.b.now c.in_ok-front.front (width c.args.f.now) kept more c.in-Facts.facts c.in_ok-sum_of-in-Facts.field-0 is
    c.requires.valued
    (omega (arith, c.in_ok-kept-in-Facts.ensures, c.width_of-vars.ensures))
    (omega (arith, c.in_ok-more-in-Facts.ensures, c.width_of-vars.ensures, c.len.ensures))
    (subst (Levels c.args.f.now c.in_ok-front.front) c.in-Facts.is c.in_ok-values.ensures).0
    (c.in_ok-sum_of-in-Facts.ensures ∙ ap (λ fs. record { steps = Combine (entries_of (map (moved kept more) fs)) ∷ [] }) c.as_slice-in-Facts.ensures)
