use Rattle.ipg_complete.specs.Unordered.{core_of}
use Rattle.ipg_order.specs.Answer.{IsFirstStuck}
use Rattle.ipg_app_text.specs.Seen.{reason_of}
use Rattle.ipg_app_text.proofs.Stages.{stuck}
use Rattle.ipg_app_text.proofs.core_of.ordered_in.Goals as goal

pub returns-in_ok-reason-in-Err-Circular : goal.returns-in_ok-reason-in-Err-Circular
returns-in_ok-reason-in-Err-Circular c is =
    let rule = c.in-Err-Circular.rule in
    let alt = c.in-Err-Circular.alt in
    let term = c.in-Err-Circular.term in
    let first : IsFirstStuck (core_of c.args.c) (rule, alt) term = rw c.in-Err-Circular.field-0-is at c.in-Err-Circular.ensures.err in
    stuck c.args.g.now c.args.c rule alt term (reason_of c.in_ok-reason-in-Err-Circular.reason) is first c.in_ok-reason-in-Err-Circular.ensures
