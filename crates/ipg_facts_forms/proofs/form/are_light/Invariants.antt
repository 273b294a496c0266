use Rattle.std.proofs.Common.{◌≡◌, drop}
use Rattle.std.specs.List.{filter, list_all}
use Rattle.ipg_facts_forms.specs.Form as spec
use Rattle.ipg_facts_forms.proofs.form.are_light.Given as goal

abbrev pub invariant-loop-part : goal.invariant-loop-part
invariant-loop-part l = list_all spec.is_light (filter spec.counts (drop l.part-index l.parts)) ≡ list_all spec.is_light (filter spec.counts l.parts)
