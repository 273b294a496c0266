use Rattle.std.proofs.Common.{◌≡◌, ◌++◌, map, drop}
use Rattle.std.specs.Prelude.{false}
use Rattle.ipg_facts_holder.proofs.holder.no_readers.Given as goal

abbrev pub invariant-loop-rule : goal.invariant-loop-rule
invariant-loop-rule l = l.none.items ++ map (λ rule. false) (drop l._rule-index l._rule-items) ≡ map (λ rule. false) l.g.rules
