use Rattle.ipg_proof.specs.Texts.{number_text, IsShort}
use Rattle.ipg_proof.specs.Reads.{IsFrom}
use Rattle.ipg_proof.proofs.Readers.{read_same}
use Rattle.ipg_proof.proofs.Digits.{short_is}
use Rattle.ipg_proof.proofs.cursor.Cursor.short.Goals as goal

pub returns : goal.returns
returns c =
    read_same (IsFrom 0) IsShort (number_text c.args.stop) c.args.self.now.left.now c.number_from.new.self.left.now c.number_from.result
    (λ n is. is.1) short_is c.number_from.ensures
