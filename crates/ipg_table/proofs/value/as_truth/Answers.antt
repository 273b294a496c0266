use Rattle.std.proofs.Common.{length, not, sym, subst}
use Rattle.ipg_num.specs.Number.{flag}
use Rattle.ipg_core.specs.Eval.{is_zero}
use Rattle.ipg_table.specs.Running.{put, on_top}
use Rattle.ipg_table.specs.Stack.{stacked, Turns}
use Rattle.ipg_table.proofs.value.as_truth.Goals as goal

pub returns-in-Some-clause-turn : goal.returns-in-Some-clause-turn
returns-in-Some-clause-turn c =
    let room = length c.args.area.now in
    let rest = stacked c.args.area.now c.in-Some.a.top in
    subst (λ stack. Turns c.put.result c.put.new.area (λ next. on_top stack (λ y rest. put room (flag (not (is_zero y))) 0 rest next)))
    (sym c.in-Some.ensures.0)
    (subst (λ a. Turns c.put.result c.put.new.area (put room a 0 rest)) c.asserted.ensures c.put.ensures.turn)
