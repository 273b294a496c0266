use Rattle.std.proofs.Common.{◌≡◌, length, sym, subst, ◌∙◌, true, false, if◌then◌else◌}
use Rattle.ipg_num.specs.Number.{flag}
use Rattle.ipg_core.specs.Eval.{is_zero}
use Rattle.ipg_table.specs.Running.{put, on_top}
use Rattle.ipg_table.specs.Stack.{stacked, Turns}
use Rattle.ipg_table.proofs.value.both.Goals as goal

pub returns-then-is_zero-clause-turn : goal.returns-then-is_zero-clause-turn
returns-then-is_zero-clause-turn c =
    let room = length c.args.area.now in
    let rest = stacked c.args.area.now c.in-Some.a.top in
    let zero : is_zero c.in-Some.a.value ≡ true = sym c.is_zero.ensures ∙ c.if-is_zero.true in
    subst (λ stack. Turns c.put.result c.put.new.area
    (λ next. on_top stack (λ x rest. if is_zero x then put room (flag false) c.args.skip rest next else next 0 rest))) (sym c.in-Some.ensures.0)
    (subst (λ b. Turns c.put.result c.put.new.area (λ next. if b then put room (flag false) c.args.skip rest next else next 0 rest)) (sym zero)
    (subst (λ a. Turns c.put.result c.put.new.area (put room a c.args.skip rest)) c.truth.ensures c.put.ensures.turn))
