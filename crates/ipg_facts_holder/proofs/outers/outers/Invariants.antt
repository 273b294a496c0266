use Rattle.std.proofs.Common.{◌≡◌, ◌++◌, drop}
use Rattle.std.specs.List.{flat_map}
use Rattle.ipg_facts_holder.specs.Outers.{term_outers}
use Rattle.ipg_facts_holder.proofs.outers.outers.Given as goal

abbrev pub invariant-loop-term : goal.invariant-loop-term
invariant-loop-term l = l.outers.items ++ flat_map term_outers (drop l.term-index l.terms) ≡ flat_map term_outers l.terms
