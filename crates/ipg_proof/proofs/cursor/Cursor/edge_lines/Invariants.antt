use Rattle.std.proofs.Common.{◌-◌}
use Rattle.ipg_proof.specs.Texts.{edge_line, IsEdgeEntry}
use Rattle.ipg_proof.proofs.Readers.{ListGoes}
use Rattle.ipg_proof.proofs.Lines.{alone_edge_line}
use Rattle.ipg_proof.proofs.Whole.{one_edge, one_edge_is}
use Rattle.ipg_proof.proofs.cursor.Cursor.edge_lines.Given as goal

-- what is left to read answers as the whole
abbrev pub invariant-loop-at : goal.invariant-loop-at
invariant-loop-at l = ListGoes IsEdgeEntry edge_line alone_edge_line one_edge one_edge_is l.count l.initial.self.left.now l.entries.items
    (l.count - l._at) l.self.left.now
