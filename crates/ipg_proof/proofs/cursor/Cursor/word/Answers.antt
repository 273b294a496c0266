use Rattle.std.proofs.Common.{subst, drop, get_or, ◌+◌}
use Rattle.std.proofs.lemmas.List.{drop_more, drop_all}
use Rattle.ipg_proof.specs.Reads.{any, always}
use Rattle.ipg_proof.proofs.Readers.{WordGoes, word_more, word_halts, word_ends, exits}
use Rattle.ipg_proof.proofs.cursor.Cursor.word.Goals as goal

pub returns-in_err-byte : goal.returns-in_err-byte
returns-in_err-byte c =
    let word = c.args.word.now in
    let first = c.args.self.now.left.now in
    let i = c.loop-b.b-index in
    let goes = subst (λ left. WordGoes word first left c.loop-b.self.left.now) (drop_more word i 0 c.loop-b-test.true) c.loop-b.invariant in
    exits any (always word) first c.byte.new.self.left.now c.from_residual.result c.in_err-byte.field-0.0 c.from_residual.ensures.1
    (word_halts word first (get_or word i 0) (drop (i + 1) word) c.loop-b.self.left.now c.byte.new.self.left.now c.in_err-byte.field-0.0
    c.in_err-byte.ensures goes)

pub loop-b-preserved : goal.loop-b-preserved
loop-b-preserved c =
    let word = c.args.word.now in
    let first = c.args.self.now.left.now in
    let i = c.loop-b.b-index in
    let goes = subst (λ left. WordGoes word first left c.loop-b.self.left.now) (drop_more word i 0 c.loop-b-test.true) c.loop-b.invariant in
    word_more word first (get_or word i 0) (drop (i + 1) word) c.loop-b.self.left.now c.byte.new.self.left.now c.in_ok-byte.ensures goes

pub returns : goal.returns
returns c =
    let word = c.args.word.now in
    word_ends word c.args.self.now.left.now c.loop-b.self.left.now
    (subst (λ left. WordGoes word c.args.self.now.left.now left c.loop-b.self.left.now) (drop_all c.loop-b.b-index word c.loop-b-test.false) c.loop-b.invariant)
