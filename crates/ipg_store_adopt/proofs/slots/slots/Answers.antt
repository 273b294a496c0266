use Rattle.std.proofs.Common.{◌≤◌, length, arith}
use Rattle.std.specs.List.{sum_by}
use Rattle.ipg_core.specs.Good.{slots_in}
use Rattle.ipg_store_adopt.proofs.Sums.{whole}
use Rattle.ipg_store_adopt.proofs.slots.slots.Goals as goal

pub returns : goal.returns
returns c =
    let end = c.loop-rule-test.false in
    let le : length c.args.rules.now ≤ c.loop-rule.rule-index = omega arith in
    whole (λ rule. sum_by (λ alt. sum_by slots_in alt.terms) rule.alts) c.loop-rule.total c.loop-rule.rule-index _ c.args.rules.now le
    c.loop-rule.invariant.1 c.loop-rule.invariant.0
