use Rattle.std.proofs.Common.{◌≡◌, ◌++◌, drop}
use Rattle.ipg_facts_forms.specs.Joint as joint
use Rattle.ipg_facts_forms.proofs.joining.parts_apart.Given as goal

abbrev pub invariant-loop-part : goal.invariant-loop-part
invariant-loop-part l = l.formulas.items ++ joint.parts_apart l.before (drop l.part-index l.parts) ≡ joint.parts_apart 0 l.parts
