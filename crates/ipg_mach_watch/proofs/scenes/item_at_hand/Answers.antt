use Rattle.std.proofs.Common.{subst}
use Rattle.ipg_mach_term.specs.Advance.{IsEntry}
use Rattle.ipg_mach.specs.Calls.{items_in}
use Rattle.ipg_mach_watch.proofs.Showing as showing
use Rattle.ipg_mach_watch.proofs.scenes.item_at_hand.Goals as goal

pub returns-in-Items : goal.returns-in-Items
returns-in-Items g c src call q =
    let s = c.args.scene.now in
    let items = items_in call.entry in
    showing.in_array s.site.size items call.entry _ _ _ (subst (λ x. IsEntry s.site.size x items call.entry) c.in-Items.is q.entry)
    (showing.count src s.now.store.now call.from s.items.now items q.have.stand)

pub returns-in-Turns : goal.returns-in-Turns
returns-in-Turns g c src call q =
    let s = c.args.scene.now in
    let items = items_in call.entry in
    showing.in_turns s.site.size items call.entry _ _ _ (subst (λ x. IsEntry s.site.size x items call.entry) c.in-Turns.is q.entry)
    (showing.count src s.now.store.now call.from s.items.now items q.have.stand)
