use Rattle.std.proofs.Common.{◌≡◌}
use Rattle.ipg_facts_forms.proofs.Parts.{Differ}
use Rattle.ipg_facts_forms.proofs.form.add_part.Given as goal

abbrev pub invariant-loop-at : goal.invariant-loop-at
invariant-loop-at l = (l.parts.items ≡ l.fn.parts.items) × Differ l.at l.parts.items l.part
