use Rattle.std.proofs.Common.{Ok, inl, inr}
use Rattle.ipg_app_text.specs.CoreOf.{Orders, Touches, OrdersAndTouches}
use Rattle.ipg_app_text.specs.Reasons.{IsLoose, IsStuck, IsUnordered}
use Rattle.ipg_app_text.specs.Seen.{reason_of}
use Rattle.ipg_app_text.specs.Instead.{answers_on, exits_on}
use Rattle.ipg_app_text.specs.Reasoned.{from_ordered}
use Rattle.ipg_app_text.proofs.core_of.core_in.Goals as goal

pub returns-in_err-core : goal.returns-in_err-core
returns-in_err-core c is =
    let whole = c.args.c in
    let g = c.args.g.now in
    exits_on c.from_residual.result c.in_err-core.field-0.0 (λ core. OrdersAndTouches whole (Ok core)) (λ r. IsStuck g whole (reason_of r))
    (λ r. IsUnordered g whole (reason_of r)) c.from_residual.ensures.1 (λ r h. inl h) (c.in_err-core.ensures is)

pub returns : goal.returns
returns c is =
    let core = c.in_ok-core.core in
    let g = c.args.g.now in
    let orders : Orders c.args.c (Ok core) = c.in_ok-core.ensures is in
    answers_on c.touching.result (λ same. Touches core (Ok same)) (λ same. OrdersAndTouches c.args.c (Ok same))
    (λ r. IsLoose g core (reason_of r)) (λ r. IsUnordered g c.args.c (reason_of r))
    (λ same t. from_ordered c.args.c core (Ok same) orders t) (λ r t. inr (core, orders, t))
    c.touching.ensures
