use Rattle.std.proofs.Common.{◌-◌, arith}
use Rattle.ipg_proof.specs.Texts.{edge_line, IsEdgeEntry}
use Rattle.ipg_proof.proofs.Readers.{list_starts, turn_halts, turns_end, turn_reads}
use Rattle.ipg_proof.proofs.Lines.{alone_edge_line}
use Rattle.ipg_proof.proofs.Whole.{one_edge, one_edge_is}
use Rattle.ipg_proof.proofs.cursor.Cursor.edge_lines.Goals as goal

pub returns-in_err-entry : goal.returns-in_err-entry
returns-in_err-entry c =
    turn_halts IsEdgeEntry edge_line alone_edge_line one_edge one_edge_is c.args.count c.args.self.now.left.now c.loop-at.entries.items c.loop-at._at
    c.from_residual.result c.in_err-entry.field-0.0 c.loop-at.self.left.now c.edge_line.new.self.left.now (omega (arith, c.loop-at-test.true))
    c.from_residual.ensures.1 c.in_err-entry.ensures c.loop-at.invariant

pub returns : goal.returns
returns c =
    turns_end IsEdgeEntry edge_line alone_edge_line one_edge one_edge_is c.args.count c.args.self.now.left.now c.loop-at.entries.items _ c.loop-at._at
    c.loop-at.self.left.now (omega (arith, c.loop-at-test.false)) c.from_vec.ensures c.loop-at.invariant

pub loop-at-init : goal.loop-at-init
loop-at-init c =
    list_starts IsEdgeEntry edge_line alone_edge_line one_edge one_edge_is c.args.count c.args.self.now.left.now
    c.new-entries.result.items (c.args.count - 0) c.new-entries.ensures.items (omega arith)

pub loop-at-preserved : goal.loop-at-preserved
loop-at-preserved c =
    turn_reads IsEdgeEntry edge_line alone_edge_line one_edge one_edge_is c.args.count c.args.self.now.left.now c.loop-at.entries.items _ c.loop-at._at
    c.in_ok-entry.entry c.loop-at.self.left.now c.edge_line.new.self.left.now (omega (arith, c.loop-at-test.true)) c.in_ok-push.ensures.items
    c.in_ok-entry.ensures c.loop-at.invariant
