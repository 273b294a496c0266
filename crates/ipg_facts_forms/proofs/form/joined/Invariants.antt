use Rattle.std.proofs.Common.{◌≡◌, drop}
use Rattle.ipg_facts_forms.specs.Form as spec
use Rattle.ipg_facts_forms.proofs.form.joined.Given as goal

abbrev pub invariant-loop-part : goal.invariant-loop-part
invariant-loop-part l = spec.add_parts l.parts.items (drop l.part-index l.b) ≡ spec.add_parts l.a l.b
