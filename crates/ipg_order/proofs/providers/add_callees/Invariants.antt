use Rattle.std.proofs.Common.{◌≡◌, ◌++◌, drop, length}
use Rattle.std.specs.Prelude.{flat_map}
use Rattle.ipg_order.specs.Providers as spec
use Rattle.ipg_order.proofs.providers.add_callees.Given as goal

-- those so far and those of what is left are all
abbrev pub invariant-loop-callee : goal.invariant-loop-callee
invariant-loop-callee l =
    let needs = spec.callee_needs l.local.holders.now l.local.flags.now l.of.at (length l.of.terms.now) l.of.number in
    l.needs.items ++ flat_map needs (drop l.callee-index l.callees) ≡ l.fn.needs.items ++ flat_map needs l.callees
