use Rattle.std.proofs.Common.{◌≡◌, Ok, Err, ap, arith, cond, sym, subst}
use Rattle.std.proofs.lemmas.Bool.{le-leb}
use Rattle.ipg_formats.specs.Text.{text_of}
use Rattle.ipg_app_text.specs.CoreOf.{CoreOf}
use Rattle.ipg_app_text.specs.Found.{Says}
use Rattle.ipg_app_text.specs.Order.{Answers, have}
use Rattle.ipg_app.specs.Reply.{trial_of, try_core}
use Rattle.ipg_app_text.specs.Steps.{core_of}
use Rattle.ipg_app_text.specs.Said.{usage}
use Rattle.ipg_app.specs.Trial.{max_parts, parts_in}
use Rattle.ipg_app_text.specs.Instead.{said_on}
use Rattle.ipg_app.proofs.trial.trial_of.Goals as goal

pub returns : goal.returns
returns c =
    let name = c.args.name.now in
    let kind = c.args.kind in
    let n = c.args.parts in
    let core = c.in_ok-core.core in
    let is : CoreOf (text_of kind) (Ok core) = rw c.text.ensures.value at c.in_ok-core.ensures in
    let few : parts_in n ≡ Ok n = ap (λ b. cond b (Ok n) (Err usage)) (le-leb n max_parts (omega (arith, c.if-parts-gt-MAX_PARTS.false))) in
    said_on c.try_core.result (Says (try_core name kind n core)) (Says (trial_of name n kind))
    (λ said h told. subst (λ r. Answers told (have r (λ parts. core_of (text_of kind) (try_core name kind parts))) said) (sym few) (Ok core, is, h told))
    c.try_core.ensures
