use Rattle.std.proofs.Common.{◌≡◌, Ok, Err, inl}
use Rattle.ipg_complete.specs.Completion.{completed}
use Rattle.ipg_app_text.specs.CoreOf.{resolved, OrdersAndTouches}
use Rattle.ipg_app_text.specs.Reasons.{CoreOrReason, IsUnnamed, IsUnordered}
use Rattle.ipg_app_text.specs.Seen.{reason_of}
use Rattle.ipg_app_text.specs.Instead.{answers_on, exits_on}
use Rattle.ipg_app_text.specs.Reasoned.{core_behind, reason_behind}
use Rattle.ipg_app_text.proofs.core_of.core_or_reason.Goals as goal

pub returns-in_err-named : goal.returns-in_err-named
returns-in_err-named c =
    let g = c.args.g.now in
    exits_on c.from_residual.result c.in_err-named.field-0.0 (λ core. CoreOrReason g (Ok core)) (λ r. IsUnnamed g (reason_of r))
    (λ r. CoreOrReason g (Err (reason_of r))) c.from_residual.ensures.1 (λ r h. inl h) c.in_err-named.ensures

pub returns : goal.returns
returns c =
    let g = c.args.g.now in
    let named = c.in_ok-named.named in
    let is : resolved g ≡ Ok named = c.in_ok-named.ensures in
    let whole = c.in_ok-whole.whole in
    let same : whole ≡ completed named = c.in_ok-whole.ensures in
    answers_on c.core_in.result (λ core. OrdersAndTouches whole (Ok core)) (λ core. CoreOrReason g (Ok core))
    (λ r. IsUnordered g whole (reason_of r)) (λ r. CoreOrReason g (Err (reason_of r)))
    (λ core h. core_behind g named whole core is same h) (λ r h. reason_behind g named whole (reason_of r) is same h)
    (c.core_in.ensures (record { n = named; resolves = is; completes = same }))
