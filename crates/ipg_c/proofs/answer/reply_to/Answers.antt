use Rattle.std.proofs.Common.{◌∙◌, ap, subst, map, List, ℕ}
use Rattle.std.specs.String.{string_bytes}
use Rattle.ipg_app_text.specs.Code.{code_of}
use Rattle.ipg_c.specs.Handed.{told_of}
use Rattle.ipg_c.specs.Answered.{Replies}
use Rattle.ipg_c.proofs.answer.reply_to.Goals as goal

pub returns-in-Ok : goal.returns-in-Ok
returns-in-Ok c =
    subst (λ (words : List (List ℕ)). Replies (λ name. told_of name c.args.files.now) words c.reply.result.text.items (code_of c.reply.result.status))
    (ap (map string_bytes) c.as_slice.ensures.value ∙ c.in-Ok.ensures) c.reply.ensures
