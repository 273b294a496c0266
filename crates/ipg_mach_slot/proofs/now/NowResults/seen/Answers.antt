use Rattle.std.proofs.Common.{sym, ap, ◌∙◌}
use Rattle.ipg_core.specs.Environment.{seen, done_at}
use Rattle.ipg_mach_slot.proofs.Reading as reading
use Rattle.ipg_mach_slot.proofs.now.NowResults.seen.Goals as goal

pub returns-in-None : goal.returns-in-None
returns-in-None g c env stands =
    let is = stands.2 in
    c.seen_done.ensures stands.0 stands.1 is.results is.grammar is.tables is.run
    ∙ ap (λ names. seen names c.args.sym.now c.args.field (done_at is.results c.args.term)) (sym is.names)
    ∙ ap (seen env.names c.args.sym.now c.args.field)
    (sym (reading.other_done stands.0 _ stands.1 _ c.args.self.now.running is.results _ c.args.term (sym c.running_at.ensures ∙ c.in-None.is) is.all))
