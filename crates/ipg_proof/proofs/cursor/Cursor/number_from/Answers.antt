use Rattle.std.proofs.Common.{subst}
use Rattle.ipg_proof.specs.Texts.{number_text}
use Rattle.ipg_proof.specs.Reads.{Reads, IsFrom, IsWithin}
use Rattle.ipg_proof.proofs.Readers.{read_same}
use Rattle.ipg_proof.proofs.Digits.{from_is, from_within}
use Rattle.ipg_proof.proofs.cursor.Cursor.number_from.Goals as goal

pub returns : goal.returns
returns c =
    let first = c.args.self.now.left.now in
    let left = c.number_within.new.self.left.now in
    let stop = c.args.stop in
    let read = subst (λ most. Reads (IsWithin c.args.least most) (number_text stop) first left c.number_within.result) c.from.ensures c.number_within.ensures in
    read_same (IsWithin c.args.least 4294967295) (IsFrom c.args.least) (number_text stop) first left c.number_within.result
    (from_is c.args.least) (from_within c.args.least) read
