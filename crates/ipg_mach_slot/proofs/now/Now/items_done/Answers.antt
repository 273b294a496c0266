use Rattle.std.proofs.Common.{sym, ◌∙◌}
use Rattle.ipg_mach_slot.proofs.Reading as reading
use Rattle.ipg_mach_slot.proofs.now.Now.items_done.Goals as goal

pub returns-in-Some : goal.returns-in-Some
returns-in-Some g c src at results run =
    reading.some_items _ src at results run c.args.term c.in-Some.done c.items_of.result.now (sym c.done_at.ensures ∙ c.in-Some.is)
    (λ one stands. c.items_of.ensures src at one stands)

pub returns-in-None : goal.returns-in-None
returns-in-None g c src at results run = reading.no_items _ src at results run c.args.term (sym c.done_at.ensures ∙ c.in-None.is)
