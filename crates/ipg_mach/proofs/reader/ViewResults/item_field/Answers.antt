use Rattle.std.proofs.Common.{w64, ap, ◌∙◌}
use Rattle.std.proofs.lemmas.Int.{to_z-of_z}
use Rattle.ipg_core.specs.Environment.{done_at, items_so_far, field_of_item}
use Rattle.ipg_core.specs.Eval.{item_at}
use Rattle.ipg_mach.proofs.reader.ViewResults.item_field.Goals as goal

pub returns : goal.returns
returns g c env stands =
    c.item_field.ensures env (stands _ c.now.ensures)
    ∙ ap (λ z. field_of_item env.names c.args.field (item_at (items_so_far (done_at env.done c.args.term)) z))
    (to_z-of_z w64 c.args.index (record { sfits = c.ranges.index.sfits }))
