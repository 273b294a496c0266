use Rattle.std.proofs.Common.{◌≡◌, ◌++◌}
use Rattle.ipg_formats.specs.Fields.{each}
use Rattle.ipg_formats.specs.Pe.{section_header, section_for}
use Rattle.ipg_formats.proofs.samples.pe.write_sections.Given as goal

abbrev pub invariant-loop-i : goal.invariant-loop-i
invariant-loop-i l = l.out.items ≡ l.initial.out.items ++ each l.i (λ i. section_header (section_for l.n i))
