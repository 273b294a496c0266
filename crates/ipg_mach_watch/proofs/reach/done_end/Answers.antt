use Rattle.std.proofs.Common.{sym, subst, max}
use Rattle.std.proofs.lemmas.Option.{MatchOption-at_none}
use Rattle.ipg_mach_watch.proofs.Extents as extents
use Rattle.ipg_mach_watch.proofs.Extents.{Leaves}
use Rattle.ipg_mach_watch.proofs.reach.done_end.Goals as goal

pub loop-row-init : goal.loop-row-init
loop-row-init g c = λ src at n done syms small each. extents.all_left src _ at n _ done each

pub loop-row-preserved : goal.loop-row-preserved
loop-row-preserved g c = λ src at n done syms small each.
    let st = c.args.store.now in
    let here = c.loop-row in
    let one = extents.first src st at n c.in-Some.row.now c.in-Some.rest.now here.left.now done here.greatest c.in-Some.ensures.cases.0
    (here.invariant src at n done syms small each) in
    let end = c.row_end.ensures src at n one.one syms small one.is in
    subst (λ m. Leaves src st at n c.in-Some.rest.now done m) (sym c.max-greatest.ensures)
    (subst (λ e. Leaves src st at n c.in-Some.rest.now done (max here.greatest e)) (sym end) one.later)

pub returns : goal.returns
returns g c src at n done syms small each =
    let here = c.loop-row in
    extents.last src c.args.store.now at n here.left.now done here.greatest (MatchOption-at_none _ _ c.in_default.is c.split_first.ensures.cases)
    (here.invariant src at n done syms small each)
