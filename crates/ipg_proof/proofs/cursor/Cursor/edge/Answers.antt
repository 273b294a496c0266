use Rattle.ipg_proof.specs.Texts.{number_text, IsShort}
use Rattle.ipg_proof.proofs.Readers.{exits}
use Rattle.ipg_proof.proofs.cursor.Cursor.edge.Goals as goal

pub returns-in_err-edge : goal.returns-in_err-edge
returns-in_err-edge c =
    let first = c.args.self.now.left.now in
    let left = c.short.new.self.left.now in
    let why = c.in_err-edge.field-0.0 in
    exits IsShort (number_text 32) first left c.from_residual.result why c.from_residual.ensures.1 c.in_err-edge.ensures
