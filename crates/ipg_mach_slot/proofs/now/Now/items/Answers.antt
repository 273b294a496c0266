use Rattle.std.proofs.Common.{sym, ◌∙◌, subst}
use Rattle.ipg_core.specs.Environment.{items_so_far}
use Rattle.ipg_mach_slot.specs.Now.{ItemsStand, lent}
use Rattle.ipg_mach_slot.proofs.Reading as reading
use Rattle.ipg_mach_slot.proofs.now.Now.items.Goals as goal

pub returns-in-None : goal.returns-in-None
returns-in-None g c env stands =
    let is = stands.2 in
    subst (λ done. ItemsStand (lent c.args.self.now) c.items_done.result.now (items_so_far done))
    (sym (reading.other_done stands.0 _ stands.1 _ c.args.self.now.running is.results _ c.args.term (sym c.running_at.ensures ∙ c.in-None.is) is.all))
    (c.items_done.ensures stands.0 stands.1 is.results is.run)
