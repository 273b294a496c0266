use Rattle.std.proofs.Common.{◌∙◌}
use Rattle.ipg_solve_values.specs.Narrowed.{narrowed}
use Rattle.ipg_solve_values.proofs.OtherValues.{solved, unsolved}
use Rattle.ipg_solve_values.proofs.Words.{narrowed_words}
use Rattle.ipg_solve_values.proofs.deciding.has_within.Goals as goal

pub returns-in-Solution : goal.returns-in-Solution
returns-in-Solution c =
    solved c.args.f.now (narrowed c.args.b.now c.args.x c.args.low c.args.high) c.in_ok-within.within c.in_ok-decide.field-0 c.in-Solution.field-0
    (c.in_ok-within.ensures ∙ narrowed_words c.args.b.now c.args.x c.args.low c.args.high c.ranges.low c.ranges.high)
    c.in-Solution.is c.in_ok-decide.ensures.exact

pub returns : goal.returns
returns c =
    unsolved c.args.f.now (narrowed c.args.b.now c.args.x c.args.low c.args.high) c.in_ok-within.within c.in_ok-decide.field-0 c.in-Refuted.field-0
    (c.in_ok-within.ensures ∙ narrowed_words c.args.b.now c.args.x c.args.low c.args.high c.ranges.low c.ranges.high)
    c.in-Refuted.is c.in_ok-decide.ensures.exact
