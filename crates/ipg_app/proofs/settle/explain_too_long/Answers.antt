use Rattle.std.proofs.Common.{◌≡◌, ◌^◌, ◌<◌, length, List, [], ℕ, Some}
use Rattle.std.proofs.lemmas.Result.{IfOk-weaker}
use Rattle.ipg_read_tokens.specs.declared.fault.ReadFault.TheVariants.{TooLong}
use Rattle.ipg_app_grammar.specs.Explained.{Refuses, explained_said}
use Rattle.ipg_app_text.specs.Lines.{said_of}
use Rattle.ipg_app_text.specs.Reasons.{read_reason}
use Rattle.ipg_app_text.specs.Seen.{reason_of}
use Rattle.ipg_app.proofs.OneReason.{refuses_too_long}
use Rattle.ipg_app.proofs.settle.explain_too_long.Goals as goal

pub returns : goal.returns
returns c =
    let name = c.args.name.now in
    let r = reason_of c.in_ok-reason.reason in
    let is : r ≡ read_reason TooLong = c.in_ok-reason.ensures in
    IfOk-weaker c.told.result (λ s. said_of s ≡ explained_said name [] (Some r))
    (λ s. (text : List ℕ) → 2 ^ 20 < length text → Refuses name text (said_of s))
    (λ s h text long. refuses_too_long name text (said_of s) r is h long)
    c.told.ensures
