use Rattle.std.proofs.Common.{◌≡◌, ◌++◌, map, drop}
use Rattle.ipg_facts_forms.specs.Form as spec
use Rattle.ipg_facts_forms.proofs.form.scaled_parts.Given as goal

abbrev pub invariant-loop-part : goal.invariant-loop-part
invariant-loop-part l = l.scaled.items ++ map (spec.scaled_part l.by) (drop l.part-index l.parts) ≡ map (spec.scaled_part l.by) l.parts
