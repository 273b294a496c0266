use Rattle.std.proofs.Common.{◌≤◌, length, ap, arith}
use Rattle.ipg_core.specs.Good.{slots_in}
use Rattle.ipg_store_adopt.proofs.Sums.{whole}
use Rattle.ipg_store_adopt.proofs.slots.alt_slots.Goals as goal

pub returns : goal.returns
returns c =
    let end = c.loop-term-test.false in
    let same = ap length c.as_slice-term-items.ensures in
    let le : length c.args.alt.now.terms ≤ c.loop-term.term-index = omega arith in
    whole slots_in c.loop-term.total c.loop-term.term-index _ c.args.alt.now.terms le
    c.loop-term.invariant.1 c.loop-term.invariant.0
