use Rattle.std.proofs.Common.{◌≡◌, ◌++◌, drop}
use Rattle.ipg_order.specs.Providers as spec
use Rattle.ipg_order.proofs.providers.needs.Given as goal

-- those so far and those of what is left are all
abbrev pub invariant-loop-number : goal.invariant-loop-number
invariant-loop-number l = l.needs.items ++ spec.all_needs l.local.holders.now l.local.flags.now l.at l.terms l.number (drop l.number l.terms) ≡
    spec.all_needs l.local.holders.now l.local.flags.now l.at l.terms 0 l.terms
