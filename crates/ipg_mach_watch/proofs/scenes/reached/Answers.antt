use Rattle.std.proofs.Common.{ap, ◌∙◌, max, ◌<◌, ◌^◌, arith}
use Rattle.ipg_core.specs.Tree.{kids_of}
use Rattle.ipg_core.specs.Eval.{greatest_end}
use Rattle.ipg_mach.specs.Calls.{items_in}
use Rattle.ipg_mach_failures.specs.Failing.{or_zero, reach_of}
use Rattle.ipg_mach_watch.proofs.Showing as showing
use Rattle.ipg_mach_watch.proofs.scenes.reached.Goals as goal

pub returns : goal.returns
returns g c src call q =
    let s = c.args.scene.now in
    let short : s.site.size < 2 ^ 63 = let is = c.part_size-size.ensures in let small = c.part_size-size.type_inv in omega (arith, is, small) in
    let done = c.done_end-done.ensures src call.from s.site.size call.state.done q.syms short q.done in
    let items = c.items_end.ensures src call.from (kids_of (items_in call.entry)) q.syms q.have.stand
    (c.within_are_short.ensures s.site.size (kids_of (items_in call.entry)) short q.have.within) in
    c.max.ensures ∙ ap (λ n. max n c.items_end.result) done
    ∙ ap (max (reach_of call.state.done)) (items ∙ ap (λ ks. or_zero (greatest_end (kids_of ks))) (showing.same_items call.entry))
