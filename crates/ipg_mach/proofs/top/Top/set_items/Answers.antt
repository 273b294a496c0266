use Rattle.std.proofs.Common.{sym, subst}
use Rattle.ipg_mach_node.specs.Items.{HasItems}
use Rattle.ipg_mach.specs.Calls.{shown, size_of}
use Rattle.ipg_mach.proofs.Working as working
use Rattle.ipg_mach.proofs.Stores as stores
use Rattle.ipg_mach.proofs.top.Top.set_items.Goals as goal

pub returns-clause-work : goal.returns-clause-work
returns-clause-work g c t src frames lower items call one some work is =
    let s = shown c.args.self.now in
    let grown = working.grown t src s frames lower items call work c.results_stay.ensures c.items_stay.ensures c.past_items.new.store
    c.in_ok-done.ensures.grows in
    let done = c.in_ok-done.ensures.result src s.frame.from (size_of s.frame) one items is
    (subst (λ rows. HasItems src s.store s.frame.from (size_of s.frame) rows items) (sym c.items-items.ensures) work.is_open.have) in
    c.set_result.ensures.work t src frames lower items call _ some grown done

pub returns-clause-keeps : goal.returns-clause-keeps
returns-clause-keeps g c mark =
    let s = shown c.args.self.now in
    stores.keeps_on s (record s { store = c.past_items.new.store }) _ (stores.keeps_grown s c.past_items.new.store c.in_ok-done.ensures.grows mark)
    (c.set_result.ensures.keeps (stores.mark_grown s.store c.past_items.new.store s.floor c.in_ok-done.ensures.grows mark))
