use Rattle.std.proofs.Common.{sym, subst, arith}
use Rattle.ipg_proof.specs.Texts.{text_of, IsSpeakable, IsTextFault}
use Rattle.ipg_proof.specs.Reads.{Reads}
use Rattle.ipg_proof.proofs.Ends.{extra_text, text_again}
use Rattle.ipg_proof.proofs.reading.ended.Goals as goal

pub returns-then-is_empty-clause-back : goal.returns-then-is_empty-clause-back
returns-then-is_empty-clause-back c = λ d is.
    text_again c.args.text.now c.args.left.now c.in-Ok.c d (subst (Reads IsSpeakable text_of c.args.text.now c.args.left.now) c.in-Ok.is c.requires) is

pub returns-else-is_empty-clause-is : goal.returns-else-is_empty-clause-is
returns-else-is_empty-clause-is c =
    let text = c.args.text.now in
    let left = c.args.left.now in
    let read = subst (Reads IsSpeakable text_of text left) c.in-Ok.is c.requires in
    subst (IsTextFault text) (sym c.place.ensures) (extra_text text left c.in-Ok.c (grind (arith, c.is_empty.ensures, c.if-is_empty.false)) read)

pub returns-else-is_empty-clause-back : goal.returns-else-is_empty-clause-back
returns-else-is_empty-clause-back c = λ d is.
    let text = c.args.text.now in
    let left = c.args.left.now in
    let read = subst (Reads IsSpeakable text_of text left) c.in-Ok.is c.requires in
    absurd ((extra_text text left c.in-Ok.c (grind (arith, c.is_empty.ensures, c.if-is_empty.false)) read).ends d is)
