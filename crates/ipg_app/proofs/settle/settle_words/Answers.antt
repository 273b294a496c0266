use Rattle.std.proofs.Common.{◌≡◌, Some, ap, inl, map, sym, subst, ◌∙◌}
use Rattle.std.specs.Option.{option_map}
use Rattle.std.specs.String.{string_bytes}
use Rattle.ipg_app_words.specs.Request.{Trial, request_of}
use Rattle.ipg_app_words.specs.Seen.{seen}
use Rattle.ipg_app_text.specs.Found.{Says}
use Rattle.ipg_app.specs.Reply.{order_of, order_on, trial}
use Rattle.ipg_app_text.specs.Settles.{Settles}
use Rattle.ipg_app.proofs.Replying.{reply_exits}
use Rattle.ipg_app.proofs.settle.settle_words.Goals as goal

pub returns-in_err-trial-in-Some-Trial-clause-settled : goal.returns-in_err-trial-in-Some-Trial-clause-settled
returns-in_err-trial-in-Some-Trial-clause-settled g c =
    let told = g.F.Files.told c.args.files.now in
    let counts = g.F.Files.faults c.args.files.now in
    let words = map string_bytes c.args.words.now in
    let name = c.in-Some-Trial.kind.now in
    let n = c.in-Some-Trial.count in
    let asks : request_of words ≡ Some (Trial name n) =
    sym c.in_ok-grammar.ensures ∙ ap (option_map seen) c.in-Some-Trial.is ∙ ap (λ a. Some (seen a)) c.in-Some-Trial.field-0-is in
    reply_exits told counts counts (order_of words) c.from_residual-in_err-trial-in-Some-Trial.result c.in_err-trial-in-Some-Trial.field-0.0
    (Says (trial name n)) c.from_residual-in_err-trial-in-Some-Trial.ensures.1
    (λ said h. subst (λ r. Settles told counts counts (order_on r) said) (sym asks) (inl (h told))) c.in_err-trial-in-Some-Trial.ensures
