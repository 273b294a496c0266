use Rattle.std.proofs.Common.{◌<◌, length, take, subst, sym, arith}
use Rattle.ipg_memo.specs.Keyed.{Entries, of_rows}
use Rattle.ipg_memo.specs.Moved.{IsMoved}
use Rattle.ipg_memo.proofs.MovedLemmas.{none_moved}
use Rattle.ipg_memo.proofs.PrefixLemmas.{one_more_as}
use Rattle.ipg_memo.proofs.memo.carry_all.Goals as goal

pub loop-row-init : goal.loop-row-init
loop-row-init g c = subst (λ (m : Entries). IsMoved c.args.from c.args.to c.args.with (of_rows (take 0 c.args.rows.now.items)) m) (sym c.requires.empty)
    (none_moved c.args.from c.args.to c.args.with)

pub loop-row-preserved : goal.loop-row-preserved
loop-row-preserved g c =
    let lt : c.loop-row.row < length c.args.rows.now.items = omega (arith, c.loop-row-test.true, c.len-row-end.ensures.value) in
    let next = one_more_as c.args.rows.now.items c.loop-row.row c.read.result.now lt c.read.ensures c.requires.indexed.0 c.requires.indexed.1 in
    subst (λ (m : Entries). IsMoved c.args.from c.args.to c.args.with m c.carry_one.new.new) (sym next.1)
    (c.in_ok-carry_one.ensures (of_rows (take c.loop-row.row c.args.rows.now.items)) next.0 c.loop-row.invariant)
