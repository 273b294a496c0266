use Rattle.std.proofs.Common.{◌≡◌, ◌+◌, ◌≤◌, length, drop}
use Rattle.std.specs.List.{filter}
use Rattle.ipg_facts_forms.specs.Form as spec
use Rattle.ipg_facts_forms.proofs.form.count.Given as goal

abbrev pub invariant-loop-part : goal.invariant-loop-part
invariant-loop-part l = (l.found ≤ l.part-index) × (l.found + length (filter spec.counts (drop l.part-index l.parts)) ≡ length (filter spec.counts l.parts))
