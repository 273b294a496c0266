use Rattle.std.proofs.Common.{rules, ap, ◌∙◌}
use Rattle.ipg_lin.specs.Formula.{assigned}
use Rattle.ipg_solve_values.proofs.Halves.{range_below, less_below, range_above}
use Rattle.ipg_solve_values.proofs.halving.halved.Goals as goal

pub returns-in-Solution-clause-range : goal.returns-in-Solution-clause-range
returns-in-Solution-clause-range c =
    range_below c.args.f.now c.args.b.now c.args.x c.args.range c.requires.range c.requires.there c.middle-at.result (search rules) (search rules)
    (search rules)
    c.middle-at.ensures.least c.middle-at.ensures.most c.in_ok-lower.lower c.in_ok-lower.ensures c.in_ok-values.field-0 c.in-Solution.values c.value_of.result
    (search rules) (c.value_of.ensures ∙ ap (λ values. assigned values c.args.x) c.as_slice.ensures) c.in-Solution.is c.in_ok-values.ensures.decided

pub returns-in-Solution-clause-less : goal.returns-in-Solution-clause-less
returns-in-Solution-clause-less c =
    less_below c.args.f.now c.args.b.now c.args.x c.args.range c.requires.range c.requires.there c.middle-at.result (search rules) (search rules) (search rules)
    c.middle-at.ensures.least c.middle-at.ensures.most c.in_ok-lower.lower c.in_ok-lower.ensures c.in_ok-values.field-0 c.in-Solution.values c.value_of.result
    (search rules) (c.value_of.ensures ∙ ap (λ values. assigned values c.args.x) c.as_slice.ensures) c.in-Solution.is c.in_ok-values.ensures.decided

pub returns-in-Refuted-clause-range : goal.returns-in-Refuted-clause-range
returns-in-Refuted-clause-range c =
    range_above c.args.f.now c.args.b.now c.args.x c.args.range c.requires.range c.requires.there c.middle-at.result (search rules) (search rules)
    (search rules)
    c.middle-at.ensures.least c.middle-at.ensures.most c.in_ok-lower.lower c.in_ok-lower.ensures c.in_ok-values.field-0 c.in-Refuted.field-0 c.in-Refuted.is
    c.in_ok-values.ensures.exact
