use Rattle.ipg_proof.specs.Texts.{number_text, IsLong}
use Rattle.ipg_proof.specs.Reads.{IsWithin}
use Rattle.ipg_proof.proofs.Readers.{read_same}
use Rattle.ipg_proof.proofs.Digits.{long_is, long_within}
use Rattle.ipg_proof.proofs.cursor.Cursor.long.Goals as goal

pub returns : goal.returns
returns c =
    read_same (IsWithin 0 18446744073709551615) IsLong (number_text c.args.stop) c.args.self.now.left.now c.number_within.new.self.left.now
    c.number_within.result long_is long_within c.number_within.ensures
