use Rattle.ipg_proof.proofs.Whole.{edge_first, edge_halts}
use Rattle.ipg_proof.proofs.cursor.Cursor.edge_line.Goals as goal

pub returns-in_err-edge : goal.returns-in_err-edge
returns-in_err-edge c =
    edge_first c.args.self.now.left.now c.edge.new.self.left.now c.from_residual.result c.in_err-edge.field-0.0 c.from_residual.ensures.1
    c.in_err-edge.ensures

pub returns-in_err-refutation : goal.returns-in_err-refutation
returns-in_err-refutation c =
    edge_halts c.args.self.now.left.now c.edge.new.self.left.now c.refutation.new.self.left.now c.in_ok-edge.edge c.from_residual-in_err-refutation.result
    c.in_err-refutation.field-0.0 c.from_residual-in_err-refutation.ensures.1 c.in_ok-edge.ensures c.in_err-refutation.ensures
