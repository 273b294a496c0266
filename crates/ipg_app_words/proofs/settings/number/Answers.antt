use Rattle.std.proofs.Common.{◌≡◌, true, ◌∙◌, rules, arith}
use Rattle.ipg_app_words.specs.Seen.{is_unsigned}
use Rattle.ipg_app_words.proofs.Digits.{read, not_read}
use Rattle.ipg_app_words.proofs.settings.number.Goals as goal

pub returns-in-Ok : goal.returns-in-Ok
returns-in-Ok c =
    let plain : is_unsigned c.args.text.now ≡ true = search rules in
    c.within.ensures ∙ read c.args.least c.args.most c.args.text.now c.in-Ok.number plain c.in-Ok.ensures.value.0

pub returns-in-Err : goal.returns-in-Err
returns-in-Err c =
    let plain : is_unsigned c.args.text.now ≡ true = search rules in
    not_read c.args.least c.args.most c.args.text.now (omega (arith, c.requires)) plain c.in-Err.ensures.value.0
