use Rattle.std.proofs.Common.{refl, sym, ◌∙◌, true≢false}
use Rattle.ipg_mach_slot.proofs.Reading as reading
use Rattle.ipg_mach_slot.proofs.now.Now.seen_done.Goals as goal

pub returns-then-is_read_by : goal.returns-then-is_read_by
returns-then-is_read_by g c src at results grammar stand run =
    reading.some_field _ src at results run c.args.term grammar.names c.args.sym.now c.args.field c.in-Some.done c.is_read_by.result c.field_of.result
    (sym c.done_at.ensures ∙ c.in-Some.is)
    (λ one stands within. c.is_read_by.ensures src at one run.syms stands)
    (λ t one stands within. c.field_of.ensures grammar stand src at one run.syms stands (c.within_is_short.ensures _ one run.short within))
    (λ f. absurd (true≢false (sym c.if-is_read_by.true ∙ f)))

pub returns-else-is_read_by : goal.returns-else-is_read_by
returns-else-is_read_by g c src at results grammar stand run =
    reading.some_field _ src at results run c.args.term grammar.names c.args.sym.now c.args.field c.in-Some.done c.is_read_by.result _
    (sym c.done_at.ensures ∙ c.in-Some.is)
    (λ one stands within. c.is_read_by.ensures src at one run.syms stands)
    (λ t. absurd (true≢false (sym t ∙ c.if-is_read_by.false)))
    (λ f. refl)

pub returns-in-None : goal.returns-in-None
returns-in-None g c src at results grammar stand run =
    sym (reading.no_field _ src at results run c.args.term grammar.names c.args.sym.now c.args.field (sym c.done_at.ensures ∙ c.in-None.is))
