use Rattle.std.proofs.Common.{◌+◌, ◌*◌, drop, get_or, ap, ◌∙◌, sym, arith}
use Rattle.ipg_read_tokens.specs.Lexical.{value, below_limit, digit_value}
use Rattle.ipg_read_tokens.proofs.Values.{too_large, next_item}
use Rattle.ipg_read_tokens.proofs.number.value_of.Goals as goal

pub returns-then-next : goal.returns-then-next
returns-then-next c =
    let digits = c.args.digits.now in
    let i = c.loop-digit.digit-index in
    let next = c.loop-digit.sum * c.args.base + digit_value (get_or digits i 0) in
    too_large c.args.base next (drop (i + 1) digits) c.requires.some (omega (arith, c.if-next.true, c.digit_of.ensures))
    ∙ ap below_limit (sym (c.loop-digit.invariant.0 ∙ ap (value c.args.base c.loop-digit.sum) (next_item digits i 0 c.loop-digit-test.true)))
