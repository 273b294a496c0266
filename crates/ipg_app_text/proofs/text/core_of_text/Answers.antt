use Rattle.std.proofs.Common.{◌≡◌, Ok, Err}
use Rattle.ipg_app_text.specs.CoreOf.{grammar_in, CoreOf}
use Rattle.ipg_app_text.specs.Lines.{said_of}
use Rattle.ipg_app_text.specs.Instead.{exits_on}
use Rattle.ipg_app_text.specs.Reasoned.{text_reads, unreadable}
use Rattle.ipg_app_text.proofs.text.core_of_text.Goals as goal

pub returns-in_err-g : goal.returns-in_err-g
returns-in_err-g c bytes is =
    exits_on c.from_residual.result c.in_err-g.field-0.0 (λ core. CoreOf bytes (Ok core)) (λ s. grammar_in bytes ≡ Err (said_of s))
    (λ s. CoreOf bytes (Err (said_of s))) c.from_residual.ensures.1 (λ s e. unreadable bytes (said_of s) e) (c.in_err-g.ensures.read bytes is)

pub returns : goal.returns
returns c bytes is = text_reads bytes c.in_ok-g.g c.core_of.result (c.in_ok-g.ensures.read bytes is) c.core_of.ensures
