use Rattle.std.proofs.Common.{◌≡◌, List, drop}
use Rattle.ipg_core.specs.declared.grammar.CoreTerm.{CoreTerm}
use Rattle.ipg_facts_holder.specs.Holder as holder
use Rattle.ipg_facts_holder.specs.Outers.{outers}
use Rattle.ipg_facts_holder.proofs.holder.kept_of.Given as goal

abbrev pub invariant-loop-place : goal.invariant-loop-place
invariant-loop-place l = (caller : List CoreTerm) → l.wanted ≡ outers caller
    → l.behind.items ≡ holder.kept l.holder.grammar.now l.holder.at l.holder.terms.now caller (drop l.place l.order)
