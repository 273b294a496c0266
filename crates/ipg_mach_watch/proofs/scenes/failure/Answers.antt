use Rattle.std.proofs.Common.{ap, ◌∙◌, ◌+◌}
use Rattle.ipg_mach_watch.proofs.Showing as showing
use Rattle.ipg_mach_watch.proofs.scenes.failure.Goals as goal

pub returns : goal.returns
returns g c src call q =
    let s = c.args.scene.now in
    showing.failure_is src s call q c.args.miss c.in-Some.place c.item_at_hand.result (c.item_at_hand.ensures src call q)
    (c.in-Some.ensures.1 ∙ ap (λ n. n + c.place_of.result) c.from.ensures ∙ ap (λ n. s.from + n) (c.place_of.ensures src call q))
