use Rattle.std.proofs.Common.{rules, ap, sym, subst, ◌∙◌}
use Rattle.ipg_lin.specs.Formula.{assigned}
use Rattle.ipg_solve.specs.Decides.{Solves}
use Rattle.ipg_solve_values.proofs.HalfRange.{at_first, settles}
use Rattle.ipg_solve_values.proofs.Halves.{not_less}
use Rattle.ipg_solve_values.proofs.halving.least.Goals as goal

pub loop-range-init : goal.loop-range-init
loop-range-init c =
    let range = c.first_range-range.result in
    let values = c.first_range-range.ensures.values in
    at_first c.args.f.now c.args.b.now c.args.x range (subst (Solves c.args.f.now c.args.b.now) (sym values) c.requires.solves)
    (c.first_range-range.ensures.high ∙ ap (λ vs. assigned vs c.args.x) (sym values)) c.first_range-range.ensures.low c.requires.there

pub returns : goal.returns
returns c = settles c.args.f.now c.args.b.now c.args.x c.loop-range.range c.loop-range.invariant
    (not_less c.loop-range.range.low c.loop-range.range.high (search rules) (search rules) c.loop-range-test.false)
