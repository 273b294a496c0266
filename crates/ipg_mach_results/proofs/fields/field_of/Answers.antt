use Rattle.std.proofs.Common.{sym, ◌∙◌}
use Rattle.ipg_mach_results.proofs.Alone.{any}
use Rattle.ipg_mach_results.proofs.fields.field_of.Goals as goal

pub returns-else-has_items : goal.returns-else-has_items
returns-else-has_items g c = λ grammar f src at one e h s.
    c.one_field.ensures grammar f src at one e h s
    ∙ sym (any grammar.names c.args.field one (sym (c.has_items.ensures src c.args.store.now at one h) ∙ c.if-has_items.false))
