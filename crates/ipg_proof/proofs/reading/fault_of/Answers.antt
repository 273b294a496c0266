use Rattle.std.proofs.Common.{sym, subst, Err}
use Rattle.ipg_proof.specs.Texts.{text_of, IsSpeakable, IsTextFault}
use Rattle.ipg_proof.specs.Reads.{Reads}
use Rattle.ipg_proof.proofs.Ends.{stuck_text}
use Rattle.ipg_proof.proofs.reading.fault_of.Goals as goal

pub returns-in-Here-clause-is : goal.returns-in-Here-clause-is
returns-in-Here-clause-is c =
    let text = c.args.text.now in
    let left = c.args.left.now in
    let read = subst (λ why. Reads IsSpeakable text_of text left (Err why)) c.in-Here.is c.requires in
    subst (IsTextFault text) (sym c.place.ensures) (stuck_text text left read)

pub returns-in-Here-clause-back : goal.returns-in-Here-clause-back
returns-in-Here-clause-back c = λ d is.
    let text = c.args.text.now in
    let left = c.args.left.now in
    let read = subst (λ why. Reads IsSpeakable text_of text left (Err why)) c.in-Here.is c.requires in
    absurd ((stuck_text text left read).ends d is)
