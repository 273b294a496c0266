use Rattle.std.proofs.Common.{sym, ap, ◌∙◌, w64}
use Rattle.std.proofs.lemmas.Int.{to_z-of_z}
use Rattle.ipg_core.specs.Environment.{field_of_item}
use Rattle.ipg_mach_results.specs.Reads.{row_at}
use Rattle.ipg_mach_results.proofs.Lists.{item_stands, no_item, short_index}
use Rattle.ipg_mach_results.proofs.items.item_field.Goals as goal

pub returns-in-Some : goal.returns-in-Some
returns-in-Some g c = λ grammar f src at ones e h s.
    let z = to_z-of_z w64 c.args.index c.ranges.index in
    let row = ap (row_at c.args.items.now) (sym z) ∙ sym c.row_at.ensures ∙ c.in-Some.is in
    let item = item_stands src c.args.store.now at c.args.items.now ones c.args.index c.in-Some.kid h row in
    c.field_of.ensures grammar f src at item.0 e item.2 (short_index ones c.args.index item.0 item.1 s)
    ∙ sym (ap (field_of_item grammar.names c.args.field) item.1)

pub returns-in-None : goal.returns-in-None
returns-in-None g c = λ grammar f src at ones e h s.
    let z = to_z-of_z w64 c.args.index c.ranges.index in
    let row = ap (row_at c.args.items.now) (sym z) ∙ sym c.row_at.ensures ∙ c.in-None.is in
    sym (ap (field_of_item grammar.names c.args.field) (no_item src c.args.store.now at c.args.items.now ones c.args.index h row))
