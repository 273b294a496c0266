use Rattle.std.proofs.Common.{◌≡◌, ◌++◌, drop}
use Rattle.std.specs.Prelude.{flat_map}
use Rattle.ipg_core.specs.Mention.{case_mentions}
use Rattle.ipg_order.specs.Named.{named}
use Rattle.ipg_order.proofs.named.add_cases.Given as goal

-- those so far and those of what is left are all
abbrev pub invariant-loop-case : goal.invariant-loop-case
invariant-loop-case l = l.out.items ++ flat_map named (flat_map case_mentions (drop l.case-index l.cases)) ≡ l.fn.out.items ++ flat_map named
    (flat_map case_mentions l.cases)
