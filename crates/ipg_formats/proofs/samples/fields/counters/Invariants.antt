use Rattle.std.proofs.Common.{◌≡◌, ◌++◌}
use Rattle.ipg_formats.specs.Fields.{counters}
use Rattle.ipg_formats.proofs.samples.fields.counters.Given as goal

abbrev pub invariant-loop-i : goal.invariant-loop-i
invariant-loop-i l = l.out.items ≡ l.initial.out.items ++ counters l.i
