use Rattle.std.proofs.Common.{ap, sym, subst, ◌∙◌, Ok}
use Rattle.ipg_cert.specs.Reader.{start, read_from, IsAnswer}
use Rattle.ipg_cert.proofs.Read.{text_at, fault_from, found_again, no_fault_again}
use Rattle.ipg_cert.proofs.words.refutation_read.Goals as goal

pub returns-in-Ok-clause-is : goal.returns-in-Ok-clause-is
returns-in-Ok-clause-is c =
    text_at c.args.text.now c.args.at c.min-from.result c.in-Ok.taken c.from_vec-steps.result c.min-from.ensures
    (ap (read_from start 0) (sym c.tail.ensures) ∙ c.in-Ok.ensures.is ∙ ap (λ steps. Ok (steps, c.in-Ok.taken)) (sym c.from_vec-steps.ensures))

pub returns-in-Ok-clause-back : goal.returns-in-Ok-clause-back
returns-in-Ok-clause-back c steps words rest text split =
    found_again c.args.text.now c.args.at c.min-from.result c.in-Ok.taken c.from_vec-steps.result steps words rest c.min-from.ensures
    (ap (read_from start 0) (sym c.tail.ensures) ∙ c.in-Ok.ensures.is ∙ ap (λ made. Ok (made, c.in-Ok.taken)) (sym c.from_vec-steps.ensures)) text split

pub returns-in-Err-At-clause-is : goal.returns-in-Err-At-clause-is
returns-in-Err-At-clause-is c =
    fault_from c.args.text.now c.args.at c.min-from.result c.in-Err-At.taken c.min-from.ensures
    (ap (read_from start 0) (sym c.tail.ensures) ∙ subst (IsAnswer (read_from start 0 c.tail.result.now)) c.in-Err-At.field-0-is c.in-Err-At.ensures.is)

pub returns-in-Err-At-clause-back : goal.returns-in-Err-At-clause-back
returns-in-Err-At-clause-back c steps words rest text split =
    absurd (no_fault_again c.args.text.now c.args.at c.min-from.result c.in-Err-At.taken steps words rest c.min-from.ensures
    (ap (read_from start 0) (sym c.tail.ensures) ∙ subst (IsAnswer (read_from start 0 c.tail.result.now)) c.in-Err-At.field-0-is c.in-Err-At.ensures.is) text
    split)
