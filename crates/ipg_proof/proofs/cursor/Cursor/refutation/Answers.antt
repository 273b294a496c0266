use Rattle.std.proofs.Common.{sym, subst, ◌∙◌, Err}
use Rattle.ipg_cert.specs.Texts.{IsFault}
use Rattle.ipg_proof.specs.declared.cursor.Stall.TheVariants.{Here}
use Rattle.ipg_proof.specs.Texts.{refutation_line, IsTree}
use Rattle.ipg_proof.specs.Reads.{Reads}
use Rattle.ipg_proof.proofs.Lines.{refutation_stuck, at_is_no_memory}
use Rattle.ipg_proof.proofs.cursor.Cursor.refutation.Goals as goal

pub returns-in-Err-At : goal.returns-in-Err-At
returns-in-Err-At c =
    let text = c.args.self.now.left.now in
    let place = c.in-Err-At.place in
    let same = c.in-Err-At.field-0-is in
    let is = subst (IsFault text 0) same c.in-Err-At.ensures.is in
    let back = c.in-Err-At.ensures.back in
    subst (λ l. Reads IsTree refutation_line text l (Err Here)) (sym c.after-self-in-Err-At.ensures)
    (refutation_stuck text place is (λ steps words rest t e. at_is_no_memory place (sym same ∙ back steps words rest t e)))
