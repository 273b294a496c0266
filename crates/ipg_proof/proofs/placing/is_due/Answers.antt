use Rattle.std.proofs.Common.{subst}
use Rattle.std.specs.Option.{option_copied}
use Rattle.std.specs.Cmp.Lexicographic.{told_text}
use Rattle.ipg_graph.specs.Lending.{AnswersWith}
use Rattle.ipg_proof.proofs.Places.{takes_due}
use Rattle.ipg_proof.proofs.placing.is_due.Goals as goal

pub returns-in-Some : goal.returns-in-Some
returns-in-Some c =
    let new = c.next.follows.lender-at-none in
    let due = c.in-Some.due.now in
    let answer = subst (λ r. AnswersWith c.args.cycles.now new (option_copied r)) c.in-Some.is c.next.follows.holds-at-none in
    takes_due c.args.cycles.now new due c.args.cycle.now c.eq.result answer (told_text due c.args.cycle.now c.eq.result c.eq.ensures)
