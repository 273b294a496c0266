use Rattle.std.proofs.Common.{◌≡◌, ◌++◌, map, drop}
use Rattle.ipg_facts_forms.specs.Joint as joint
use Rattle.ipg_facts_forms.proofs.joining.+joining.Given as goal

abbrev pub invariant-all_apart-loop-member : goal.invariant-all_apart-loop-member
invariant-all_apart-loop-member l = l.formulas.items ++ map (joint.apart l.by) (drop l.member-index l.members) ≡ map (joint.apart l.by) l.members
