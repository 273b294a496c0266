use Rattle.std.proofs.Common.{◌≤◌, length, ap, arith}
use Rattle.std.specs.List.{sum_by}
use Rattle.ipg_core.specs.Good.{slots_in}
use Rattle.ipg_store_adopt.proofs.Sums.{whole}
use Rattle.ipg_store_adopt.proofs.slots.rule_slots.Goals as goal

pub returns : goal.returns
returns c =
    let end = c.loop-alt-test.false in
    let same = ap length c.as_slice-alt-items.ensures in
    let le : length c.args.rule.now.alts ≤ c.loop-alt.alt-index = omega arith in
    whole (λ alt. sum_by slots_in alt.terms) c.loop-alt.total c.loop-alt.alt-index _ c.args.rule.now.alts le
    c.loop-alt.invariant.1 c.loop-alt.invariant.0
