use Rattle.std.proofs.Common.{◌≡◌, List, ℕ, Ok, Err, inl}
use Rattle.ipg_app_text.specs.CoreOf.{grammar_in}
use Rattle.ipg_app_text.specs.Found.{FoundText, silence}
use Rattle.ipg_app_text.specs.Lines.{said_of}
use Rattle.ipg_app_text.specs.Order.{Order}
use Rattle.ipg_app.specs.Reply.{fmt}
use Rattle.ipg_app_grammar.specs.Commands.{formatted}
use Rattle.ipg_app_text.specs.Steps.{grammar_of, text_under}
use Rattle.ipg_app_text.specs.Settles.{Settles}
use Rattle.ipg_app_text.specs.Instead.{said_exits}
use Rattle.ipg_app.proofs.Settling.{grammar_on, no_grammar_on, found_bytes, found_is, text_on, no_text_on}
use Rattle.ipg_app.proofs.settle.settle_fmt.Goals as goal

pub returns-in_err-text-clause-settled : goal.returns-in_err-text-clause-settled
returns-in_err-text-clause-settled g c =
    let told = g.F.Files.told c.args.files.now in
    let before = g.F.Files.faults c.args.files.now in
    let after = g.F.Files.faults c.text_under.new.files in
    let name = c.args.grammar.now in
    let next : List ℕ → Order = λ text. grammar_of text formatted in
    said_exits c.from_residual.result c.in_err-text.field-0.0 (Settles told before after (text_under name (λ text. silence)))
    (Settles told before after (fmt name)) c.from_residual.ensures.1 (λ said h. no_text_on told before after name next said h) c.in_err-text.ensures.found

pub returns-in_err-grammar-clause-settled : goal.returns-in_err-grammar-clause-settled
returns-in_err-grammar-clause-settled g c =
    let told = g.F.Files.told c.args.files.now in
    let before = g.F.Files.faults c.args.files.now in
    let after = g.F.Files.faults c.text_under.new.files in
    let name = c.args.grammar.now in
    let text = c.in_ok-text.text in
    let found : FoundText told name text = c.in_ok-text.ensures.found in
    let bytes = found_bytes told name text found in
    let is = found_is told name text found in
    let next : List ℕ → Order = λ text. grammar_of text formatted in
    said_exits c.from_residual-in_err-grammar.result c.in_err-grammar.field-0.0 (λ said. grammar_in bytes ≡ Err said) (Settles told before after (fmt name))
    c.from_residual-in_err-grammar.ensures.1
    (λ said e. text_on told before after name next said text found (no_grammar_on told before after bytes formatted said e))
    (c.in_err-grammar.ensures.read bytes is)

pub returns-clause-settled : goal.returns-clause-settled
returns-clause-settled g c =
    let told = g.F.Files.told c.args.files.now in
    let before = g.F.Files.faults c.args.files.now in
    let after = g.F.Files.faults c.text_under.new.files in
    let name = c.args.grammar.now in
    let text = c.in_ok-text.text in
    let found : FoundText told name text = c.in_ok-text.ensures.found in
    let bytes = found_bytes told name text found in
    let is = found_is told name text found in
    let next : List ℕ → Order = λ text. grammar_of text formatted in
    let written = c.in_ok-grammar.grammar in
    let reads : grammar_in bytes ≡ Ok written = c.in_ok-grammar.ensures.read bytes is in
    let said = said_of c.in_ok-format.field-0 in
    text_on told before after name next said text found (grammar_on told before after bytes formatted said written reads (inl c.in_ok-format.ensures))
