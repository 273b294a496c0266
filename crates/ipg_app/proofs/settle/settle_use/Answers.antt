use Rattle.std.proofs.Common.{List, ℕ, Ok, Err}
use Rattle.ipg_app_text.specs.CoreOf.{CoreOf}
use Rattle.ipg_app_text.specs.Found.{FoundText, silence}
use Rattle.ipg_app_text.specs.Order.{Order}
use Rattle.ipg_app.specs.Reply.{order_by, use_order}
use Rattle.ipg_app_text.specs.Steps.{core_of, text_under}
use Rattle.ipg_app_text.specs.Settles.{Settles}
use Rattle.ipg_app.specs.Settled.{task_seen}
use Rattle.ipg_app.proofs.Nesting.{core_nests}
use Rattle.ipg_app.proofs.Settling.{core_on, no_core_on, found_bytes, found_is, text_on, no_text_on, settles_then}
use Rattle.ipg_app.proofs.Replying.{replied_on, reply_exits}
use Rattle.ipg_app.proofs.settle.settle_use.Goals as goal

pub settle_task-requires : goal.settle_task-requires
settle_task-requires g c =
    let told = g.F.Files.told c.args.files.now in
    let name = c.args.grammar.now in
    let text = c.in_ok-text.text in
    let found : FoundText told name text = c.in_ok-text.ensures.found in
    let bytes = found_bytes told name text found in
    let is = found_is told name text found in
    core_nests c.text_is_shallow.ensures.nests bytes c.in_ok-core.core (c.in_ok-core.ensures bytes is)

pub returns-in_err-text-clause-settled : goal.returns-in_err-text-clause-settled
returns-in_err-text-clause-settled g c =
    let told = g.F.Files.told c.args.files.now in
    let before = g.F.Files.faults c.args.files.now in
    let after = g.F.Files.faults c.text_under.new.files in
    let name = c.args.grammar.now in
    let task = task_seen c.args.task in
    let next : List ℕ → Order = λ text. core_of text (order_by task) in
    reply_exits told before after (use_order name task) c.from_residual.result c.in_err-text.field-0.0
    (Settles told before after (text_under name (λ text. silence))) c.from_residual.ensures.1
    (λ said h. no_text_on told before after name next said h) c.in_err-text.ensures.found

pub returns-in_err-core-clause-settled : goal.returns-in_err-core-clause-settled
returns-in_err-core-clause-settled g c =
    let told = g.F.Files.told c.args.files.now in
    let before = g.F.Files.faults c.args.files.now in
    let after = g.F.Files.faults c.text_under.new.files in
    let name = c.args.grammar.now in
    let text = c.in_ok-text.text in
    let found : FoundText told name text = c.in_ok-text.ensures.found in
    let bytes = found_bytes told name text found in
    let is = found_is told name text found in
    let task = task_seen c.args.task in
    let next : List ℕ → Order = λ text. core_of text (order_by task) in
    reply_exits told before after (use_order name task) c.from_residual-in_err-core.result c.in_err-core.field-0.0 (λ said. CoreOf bytes (Err said))
    c.from_residual-in_err-core.ensures.1
    (λ said h. text_on told before after name next said text found (no_core_on told before after bytes (order_by task) said h)) (c.in_err-core.ensures bytes is)

pub returns-clause-settled : goal.returns-clause-settled
returns-clause-settled g c =
    let told = g.F.Files.told c.args.files.now in
    let before = g.F.Files.faults c.args.files.now in
    let then = g.F.Files.told c.text_under.new.files in
    let between = g.F.Files.faults c.text_under.new.files in
    let after = g.F.Files.faults c.settle_task.new.files in
    let name = c.args.grammar.now in
    let text = c.in_ok-text.text in
    let found : FoundText told name text = c.in_ok-text.ensures.found in
    let bytes = found_bytes told name text found in
    let is = found_is told name text found in
    let task = task_seen c.args.task in
    let next : List ℕ → Order = λ text. core_of text (order_by task) in
    let core = c.in_ok-core.core in
    let core_is : CoreOf bytes (Ok core) = c.in_ok-core.ensures bytes is in
    replied_on told before after (use_order name task) then between after (order_by task core) c.settle_task.result
    (λ said h. text_on told before after name next said text found (core_on told before after bytes (order_by task) said core core_is
    (settles_then told then c.text_under.ensures.told before between after (order_by task core) said c.text_under.ensures.counts h)))
    c.settle_task.ensures.settled
