use Rattle.std.proofs.Common.{◌-◌, arith}
use Rattle.ipg_proof.specs.Texts.{number_text, IsShort}
use Rattle.ipg_proof.proofs.Readers.{list_starts, turn_halts, turns_end, turn_reads}
use Rattle.ipg_proof.proofs.Digits.{alone_short, one_short}
use Rattle.ipg_proof.proofs.Whole.{low}
use Rattle.ipg_proof.proofs.cursor.Cursor.numbers.Goals as goal

pub returns-in_err-number : goal.returns-in_err-number
returns-in_err-number c =
    turn_halts IsShort (number_text 32) (alone_short 32 low) 1 one_short c.args.count c.args.self.now.left.now c.loop-at.numbers.items c.loop-at._at
    c.from_residual.result c.in_err-number.field-0.0 c.loop-at.self.left.now c.edge.new.self.left.now (omega (arith, c.loop-at-test.true))
    c.from_residual.ensures.1 c.in_err-number.ensures c.loop-at.invariant

pub returns : goal.returns
returns c =
    turns_end IsShort (number_text 32) (alone_short 32 low) 1 one_short c.args.count c.args.self.now.left.now c.loop-at.numbers.items _ c.loop-at._at
    c.loop-at.self.left.now (omega (arith, c.loop-at-test.false)) c.from_vec.ensures c.loop-at.invariant

pub loop-at-init : goal.loop-at-init
loop-at-init c =
    list_starts IsShort (number_text 32) (alone_short 32 low) 1 one_short c.args.count c.args.self.now.left.now
    c.new-numbers.result.items (c.args.count - 0) c.new-numbers.ensures.items (omega arith)

pub loop-at-preserved : goal.loop-at-preserved
loop-at-preserved c =
    turn_reads IsShort (number_text 32) (alone_short 32 low) 1 one_short c.args.count c.args.self.now.left.now c.loop-at.numbers.items _ c.loop-at._at
    c.in_ok-number.number c.loop-at.self.left.now c.edge.new.self.left.now (omega (arith, c.loop-at-test.true)) c.in_ok-push.ensures.items
    c.in_ok-number.ensures c.loop-at.invariant
