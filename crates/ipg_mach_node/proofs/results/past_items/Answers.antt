use Rattle.std.proofs.Common.{false, subst, sym, ap}
use Rattle.ipg_core.specs.Tree.{kids_of}
use Rattle.ipg_mach_slot.specs.Now.{IsDone}
use Rattle.ipg_mach_node.specs.Items.{together}
use Rattle.ipg_mach_node.proofs.Past as past
use Rattle.ipg_mach_node.proofs.results.past_items.Goals as goal

pub returns-clause-result : goal.returns-clause-result
returns-clause-result g c src at n one ones known has =
    subst (λ kid. IsDone src c.add_list.new.self at n (record { is_switch = false; kid = kid })
    (record { is_switch = false; kid = together c.args.several one (kids_of ones) })) (sym c.row_of.ensures)
    (past.past_items c.items_stay.ensures c.grows_on.ensures.list src c.args.store.now _ at n c.args.sym one c.args.items.now ones c.in_ok-items.items
    (c.in_ok-items.ensures.stored) (c.in_ok-items.ensures.id) known has c.args.several)
