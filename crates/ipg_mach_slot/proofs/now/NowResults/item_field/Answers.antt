use Rattle.std.proofs.Common.{w64, sym, ap, ◌∙◌}
use mir.Val.{to_z, of_z}
use Rattle.std.proofs.lemmas.Int.{to_z-of_z}
use Rattle.ipg_core.specs.Environment.{field_of_item, items_so_far, done_at}
use Rattle.ipg_core.specs.Eval.{item_at}
use Rattle.ipg_mach_slot.proofs.now.NowResults.item_field.Goals as goal

pub returns : goal.returns
returns g c env stands =
    let is = stands.2 in
    let items = c.items.ensures env stands in
    let so_far = items_so_far (done_at env.done c.args.term) in
    c.item_field.ensures is.grammar is.tables items.src items.at so_far items.syms items.stand (c.within_are_short.ensures _ _ items.short items.within)
    ∙ ap (λ names. field_of_item names c.args.field (item_at so_far (to_z w64 (of_z w64 c.args.index)))) (sym is.names)
    ∙ ap (λ i. field_of_item env.names c.args.field (item_at so_far i)) (to_z-of_z w64 c.args.index c.ranges.index)
