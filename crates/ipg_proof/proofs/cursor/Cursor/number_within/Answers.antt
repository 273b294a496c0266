use Rattle.std.proofs.Common.{subst, arith, [], ◌∷◌, Ok, Err}
use Rattle.ipg_proof.specs.Texts.{number_text}
use Rattle.ipg_proof.specs.Reads.{Reads, IsWithin, any, always}
use Rattle.ipg_proof.proofs.Readers.{exits}
use Rattle.ipg_proof.proofs.Digits.{number_ends, number_absent}
use Rattle.ipg_proof.proofs.cursor.Cursor.number_within.Goals as goal

pub returns-in_default : goal.returns-in_default
returns-in_default c =
    number_absent c.args.stop c.args.least c.args.most c.args.self.now.left.now c.first_digit.new.self.left.now c.requires.least c.requires.most
    (omega arith) c.requires.stop
    c.in_default.ensures.0 c.in_default.ensures.1

pub returns-in_err-byte : goal.returns-in_err-byte
returns-in_err-byte c =
    let stop = c.args.stop in
    let first = c.args.self.now.left.now in
    let left = c.byte.new.self.left.now in
    let why = c.in_err-byte.field-0.0 in
    let there = subst (λ l. Reads any (always (stop ∷ [])) l left (Err why)) c.in_default-next_digit.ensures.0 c.in_err-byte.ensures in
    exits (IsWithin c.args.least c.args.most) (number_text stop) first left c.from_residual.result why c.from_residual.ensures.1
    (number_ends stop c.args.least c.args.most c.loop-next.value first c.loop-next.self.left.now left (Err why)
    c.requires.stop (omega arith) c.loop-next.invariant
    c.in_default-next_digit.ensures.1 there)

pub returns : goal.returns
returns c =
    let stop = c.args.stop in
    let left = c.byte.new.self.left.now in
    let there = subst (λ l. Reads any (always (stop ∷ [])) l left (Ok tt)) c.in_default-next_digit.ensures.0 c.in_ok-byte.ensures in
    number_ends stop c.args.least c.args.most c.loop-next.value c.args.self.now.left.now c.loop-next.self.left.now left (Ok tt) c.requires.stop (omega arith)
    c.loop-next.invariant c.in_default-next_digit.ensures.1 there
