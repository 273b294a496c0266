use Rattle.std.proofs.Common.{ap, length, ◌∙◌}
use Rattle.ipg_app_values.proofs.Parts.{as_many_on}
use Rattle.ipg_app_values.proofs.noted.site_line.Goals as goal

pub values-requires-clause-sound : goal.values-requires-clause-sound
values-requires-clause-sound c = (c.in_ok-conditions.ensures c.args.edge c.requires).sound

pub values-requires-clause-there : goal.values-requires-clause-there
values-requires-clause-there c =
    ap length (c.as_slice.ensures.value ∙ c.in_ok-all.ensures)
    ∙ as_many_on c.args.ground.calls.grammar.now c.args.ground.calls.marks.now c.args.edge _ c.in_ok-conditions.conditions
    (c.in_ok-conditions.ensures c.args.edge c.requires)
