use Rattle.std.proofs.Common.{Ok, Err}
use Rattle.ipg_app_text.specs.CoreOf.{CoreFrom}
use Rattle.ipg_app_text.specs.Lines.{said_of}
use Rattle.ipg_app_text.specs.Reasons.{CoreOrReason}
use Rattle.ipg_app_text.specs.Seen.{reason_of}
use Rattle.ipg_app_text.specs.Instead.{reason_exits_on}
use Rattle.ipg_app_text.specs.Reasoned.{without_core}
use Rattle.ipg_app_text.proofs.core_of.core_of.Goals as goal

pub returns-in_err-core_or_reason : goal.returns-in_err-core_or_reason
returns-in_err-core_or_reason c =
    let g = c.args.g.now in
    reason_exits_on c.from_residual.result c.in_err-core_or_reason.field-0.0 (λ core. CoreFrom g (Ok core)) (λ r. CoreOrReason g (Err (reason_of r)))
    (λ s. CoreFrom g (Err (said_of s))) c.from_residual.ensures.1 (λ r h. without_core g (reason_of r) h) c.in_err-core_or_reason.ensures
