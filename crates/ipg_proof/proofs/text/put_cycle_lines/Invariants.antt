use Rattle.std.proofs.Common.{◌≡◌, ◌++◌, drop}
use Rattle.std.specs.List.{flat_map}
use Rattle.ipg_proof.specs.Texts.{cycle_line}
use Rattle.ipg_proof.proofs.text.put_cycle_lines.Given as goal

-- what is written, and what is left to write
abbrev pub invariant-loop-entry : goal.invariant-loop-entry
invariant-loop-entry l = l.out.items ++ flat_map cycle_line (drop l.entry-index l.cycles) ≡ l.fn.out.items ++ flat_map cycle_line l.cycles
