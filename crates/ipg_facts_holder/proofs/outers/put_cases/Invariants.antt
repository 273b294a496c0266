use Rattle.std.proofs.Common.{◌≡◌, ◌++◌, drop}
use Rattle.std.specs.List.{flat_map}
use Rattle.ipg_core.specs.Mention.{case_mentions}
use Rattle.ipg_facts_holder.specs.Outers.{outers_in}
use Rattle.ipg_facts_holder.proofs.outers.put_cases.Given as goal

abbrev pub invariant-loop-case : goal.invariant-loop-case
invariant-loop-case l = l.out.items ++ outers_in (flat_map case_mentions (drop l.case-index l.cases))
    ≡ l.fn.out.items ++ outers_in (flat_map case_mentions l.cases)
