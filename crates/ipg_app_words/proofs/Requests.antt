-- What a command that takes the words asks for.
use Rattle.std.proofs.Common.{◌≡◌, List, Option, Some, ap, ◌∙◌}
use Rattle.clap.specs.Walk.{Text, Row}
use Rattle.clap.specs.Simple.{App}
use Rattle.ipg_app_words.specs.Commands.{taken}
use Rattle.ipg_app_words.specs.Request.{Task, Request, use_by, use_words, ◌>>=◌}

pub used : (app command : App) (task : List Row → Option Task) (words : List Text) (rows : List Row) (wanted : Option Task) (asked : Option Request)
    → app ≡ command → Some rows ≡ taken app words → wanted ≡ task rows → asked ≡ use_by rows wanted → asked ≡ use_words command task words
used app command task words rows wanted asked same found is gives =
    let next : List Row → Option Request = λ r. use_by r (task r) in
    let takes : Some rows ≡ taken command words = found ∙ ap (λ a. taken a words) same in
    gives ∙ ap (use_by rows) is ∙ ap (λ found. found >>= next) takes
