use Rattle.std.proofs.Common.{◌++◌, ap, ◌∙◌, length}
use Rattle.std.specs.Prelude.{flat_map}
use Rattle.std.proofs.lemmas.Result.{on_ok_weaker}
use Rattle.ipg_order.specs.Providers.{callee_needs}
use Rattle.ipg_order.proofs.Called.{needs_by_callees}
use Rattle.ipg_order.proofs.providers.add_syms.Goals as goal

pub returns : goal.returns
returns c =
    let holders = c.args.local.holders.now in
    let flags = c.args.local.flags.now in
    let of = c.args.of in
    let old = c.args.needs.now.items in
    on_ok_weaker c.add_callees.result (λ put. put
    ∙ ap (λ callees. old ++ flat_map (callee_needs holders flags of.at (length of.terms.now) of.number) callees)
    (c.as_slice.ensures.value ∙ c.in_ok-callees.ensures)
    ∙ ap (λ made. old ++ made) (needs_by_callees holders flags of.at of.terms.now of.number c.args.term.now)) c.add_callees.ensures
