use Rattle.std.proofs.Common.{◌≡◌, ◌++◌, drop}
use Rattle.std.specs.List.{flat_map}
use Rattle.ipg_proof.specs.Texts.{edge_line}
use Rattle.ipg_proof.proofs.text.put_edge_lines.Given as goal

-- what is written, and what is left to write
abbrev pub invariant-loop-entry : goal.invariant-loop-entry
invariant-loop-entry l = l.out.items ++ flat_map edge_line (drop l.entry-index l.dead) ≡ l.fn.out.items ++ flat_map edge_line l.dead
