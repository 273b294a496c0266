use Rattle.std.proofs.Common.{Ok}
use Rattle.ipg_proof.proofs.Whole.{both_first, both_halts, both_second}
use Rattle.ipg_proof.proofs.cursor.Cursor.certificate.Goals as goal

pub returns-in_err-dead : goal.returns-in_err-dead
returns-in_err-dead c =
    both_first c.args.self.now.left.now c.dead.new.self.left.now c.from_residual.result c.in_err-dead.field-0.0 c.from_residual.ensures.1
    c.in_err-dead.ensures

pub returns-in_err-cycles : goal.returns-in_err-cycles
returns-in_err-cycles c =
    both_halts c.args.self.now.left.now c.dead.new.self.left.now c.cycles.new.self.left.now c.in_ok-dead.dead c.from_residual-in_err-cycles.result
    c.in_err-cycles.field-0.0 c.from_residual-in_err-cycles.ensures.1 c.in_ok-dead.ensures c.in_err-cycles.ensures

pub returns : goal.returns
returns c =
    both_second c.args.self.now.left.now c.dead.new.self.left.now c.cycles.new.self.left.now c.in_ok-dead.dead (Ok c.in_ok-cycles.cycles)
    c.in_ok-dead.ensures c.in_ok-cycles.ensures
