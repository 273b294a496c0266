use Rattle.std.proofs.Common.{◌-◌}
use Rattle.ipg_proof.specs.Texts.{cycle_line, IsCycleEntry}
use Rattle.ipg_proof.proofs.Readers.{ListGoes}
use Rattle.ipg_proof.proofs.Lines.{alone_cycle_line}
use Rattle.ipg_proof.proofs.Whole.{one_cycle, one_cycle_is}
use Rattle.ipg_proof.proofs.cursor.Cursor.cycle_lines.Given as goal

-- what is left to read answers as the whole
abbrev pub invariant-loop-at : goal.invariant-loop-at
invariant-loop-at l = ListGoes IsCycleEntry cycle_line alone_cycle_line one_cycle one_cycle_is l.count l.initial.self.left.now l.entries.items
    (l.count - l._at) l.self.left.now
