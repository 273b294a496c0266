use Rattle.ipg_mach_slot.proofs.now.NowResults.greatest_end.Goals as goal

pub returns : goal.returns
returns g c env stands =
    let items = c.items.ensures env stands in
    c.greatest_end.ensures items.src items.at _ items.syms items.stand (c.within_are_short.ensures _ _ items.short items.within)
