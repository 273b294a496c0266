use Rattle.std.proofs.Common.{rules, ◌∙◌}
use Rattle.ipg_solve_values.proofs.OtherValues.{is_within, sure_tells}
use Rattle.ipg_solve_values.proofs.Words.{word_is}
use Rattle.ipg_solve_values.proofs.deciding.sure.Goals as goal

pub has_below-requires-clause-within : goal.has_below-requires-clause-within
has_below-requires-clause-within c =
    is_within c.args.b.now c.args.x c.args.found.now _ (word_is c.value_of-value.result (search rules) ∙ c.value_of-value.ensures) c.requires.solves.1

pub has_above-requires-clause-within : goal.has_above-requires-clause-within
has_above-requires-clause-within c =
    is_within c.args.b.now c.args.x c.args.found.now _ (word_is c.value_of-value.result (search rules) ∙ c.value_of-value.ensures) c.requires.solves.1

pub returns : goal.returns
returns c =
    sure_tells c.args.f.now c.args.b.now c.args.x c.args.found.now c.requires.solves _
    (word_is c.value_of-value.result (search rules) ∙ c.value_of-value.ensures) c.in_ok-has_below.field-0 c.in_ok-has_above.field-0
    c.if-branch.false c.if-branch-2.false c.in_ok-has_below.ensures c.in_ok-has_above.ensures
