use Rattle.std.proofs.Common.{arith}
use Rattle.ipg_c_trees.proofs.Coming.{large, wanting}
use Rattle.ipg_c_trees.proofs.format.Format.found_or_fault.Goals as goal

pub returns-then-input-gt-MAX_INPUT : goal.returns-then-input-gt-MAX_INPUT
returns-then-input-gt-MAX_INPUT c =
    let more = c.if-input-gt-MAX_INPUT.true in
    large c.args.self.now c.args.input.now (omega (arith, more)) c.without_rows.ensures.status c.without_rows.ensures.rows

pub returns-in-Err : goal.returns-in-Err
returns-in-Err c = wanting c.args.self.now c.args.input.now c.without_rows-in-Err.ensures.status c.without_rows-in-Err.ensures.rows
