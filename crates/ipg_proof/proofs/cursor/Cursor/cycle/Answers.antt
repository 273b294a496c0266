use Rattle.ipg_proof.proofs.Whole.{cycle_first, cycle_second}
use Rattle.ipg_proof.proofs.cursor.Cursor.cycle.Goals as goal

pub returns-in_err-count : goal.returns-in_err-count
returns-in_err-count c =
    cycle_first c.args.self.now.left.now c.number_from.new.self.left.now c.from_residual.result c.in_err-count.field-0.0 c.from_residual.ensures.1
    c.in_err-count.ensures

pub returns : goal.returns
returns c =
    cycle_second c.args.self.now.left.now c.number_from.new.self.left.now c.numbers.new.self.left.now c.in_ok-count.count c.numbers.result
    c.in_ok-count.ensures c.numbers.ensures
