use Rattle.std.proofs.Common.{◌≡◌, Some, None, ap, sym, subst, ◌∙◌}
use Rattle.std.specs.Option.{option_map}
use Rattle.ipg_app_text.specs.Found.{FoundText, bytes_of, silence}
use Rattle.ipg_app_text.specs.Lines.{said_of}
use Rattle.ipg_app.specs.Reply.{explain, explain_by}
use Rattle.ipg_app_text.specs.Steps.{text_under}
use Rattle.ipg_app_text.specs.Settles.{Settles}
use Rattle.ipg_app_text.specs.Instead.{said_exits, said_on}
use Rattle.ipg_app.proofs.Settling.{found_bytes, found_is, refused_by, settles_then, text_on, these_bytes, no_text_on, too_many}
use Rattle.ipg_app.proofs.settle.settle_explain.Goals as goal

pub returns-in_err-text-clause-settled : goal.returns-in_err-text-clause-settled
returns-in_err-text-clause-settled g c =
    let told = g.F.Files.told c.args.files.now in
    let before = g.F.Files.faults c.args.files.now in
    let after = g.F.Files.faults c.text_under.new.files in
    let name = c.args.grammar.now in
    let input = option_map (λ text. text.now) c.args.input in
    said_exits c.from_residual.result c.in_err-text.field-0.0 (Settles told before after (text_under name (λ text. silence)))
    (Settles told before after (explain name input)) c.from_residual.ensures.1
    (λ said h. no_text_on told before after name (explain_by name input) said h) c.in_err-text.ensures.found

pub returns-in-Some-clause-settled : goal.returns-in-Some-clause-settled
returns-in-Some-clause-settled g c =
    let told = g.F.Files.told c.args.files.now in
    let before = g.F.Files.faults c.args.files.now in
    let then = g.F.Files.told c.text_under.new.files in
    let between = g.F.Files.faults c.text_under.new.files in
    let after = g.F.Files.faults c.explain_by.new.files in
    let name = c.args.grammar.now in
    let text = c.in_ok-text.text in
    let found : FoundText told name text = c.in_ok-text.ensures.found in
    let bytes = found_bytes told name text found in
    let is = found_is told name text found in
    let input = option_map (λ text. text.now) c.args.input in
    let these = c.in-Some.text.now in
    let some : bytes_of text ≡ Some these = sym c.bytes.ensures ∙ ap (option_map (λ bytes. bytes.now)) c.in-Some.is in
    let same : bytes ≡ these = these_bytes text bytes these some is in
    said_on c.explain_by.result (Settles then between after (explain_by name input these)) (Settles told before after (explain name input))
    (λ said h. text_on told before after name (explain_by name input) said text found
    (subst (λ bytes. Settles told before after (explain_by name input bytes) said) (sym same)
    (settles_then told then c.text_under.ensures.told before between after (explain_by name input these) said c.text_under.ensures.counts h)))
    c.explain_by.ensures.settled

pub returns-clause-settled : goal.returns-clause-settled
returns-clause-settled g c =
    let told = g.F.Files.told c.args.files.now in
    let before = g.F.Files.faults c.args.files.now in
    let after = g.F.Files.faults c.text_under.new.files in
    let name = c.args.grammar.now in
    let text = c.in_ok-text.text in
    let found : FoundText told name text = c.in_ok-text.ensures.found in
    let bytes = found_bytes told name text found in
    let is = found_is told name text found in
    let input = option_map (λ text. text.now) c.args.input in
    let none : bytes_of text ≡ None = sym c.bytes.ensures ∙ ap (option_map (λ bytes. bytes.now)) c.in-None.is in
    let said = said_of c.in_ok-explain_too_long-in-None.field-0 in
    text_on told before after name (explain_by name input) said text found
    (refused_by told before after name input bytes said (c.in_ok-explain_too_long-in-None.ensures bytes (too_many text bytes none is)))
