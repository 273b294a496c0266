use Rattle.ipg_proof.proofs.Whole.{line_first, line_halts}
use Rattle.ipg_proof.proofs.cursor.Cursor.cycle_line.Goals as goal

pub returns-in_err-cycle : goal.returns-in_err-cycle
returns-in_err-cycle c =
    line_first c.args.self.now.left.now c.cycle.new.self.left.now c.from_residual.result c.in_err-cycle.field-0.0 c.from_residual.ensures.1
    c.in_err-cycle.ensures

pub returns-in_err-refutation : goal.returns-in_err-refutation
returns-in_err-refutation c =
    line_halts c.args.self.now.left.now c.cycle.new.self.left.now c.refutation.new.self.left.now c.in_ok-cycle.cycle c.from_residual-in_err-refutation.result
    c.in_err-refutation.field-0.0 c.from_residual-in_err-refutation.ensures.1 c.in_ok-cycle.ensures c.in_err-refutation.ensures
