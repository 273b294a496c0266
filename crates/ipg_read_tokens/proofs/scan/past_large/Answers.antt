use Rattle.std.proofs.Common.{rules, ◌≡◌, ◌-◌, Some, None, drop, length, ap, ◌∙◌, refl, subst, arith}
use Rattle.ipg_read_tokens.specs.Lexical.{front_of, large_first}
use Rattle.ipg_read_tokens.specs.Within.{width_of, WidthWithin}
use Rattle.ipg_read_tokens.proofs.Lexemes.{lexed_nothing, lexed_width}
use Rattle.ipg_read_tokens.proofs.scan.past_large.Goals as goal

pub returns-in-None : goal.returns-in-None
returns-in-None c =
    let at = c.loop-at.at in
    let text = c.args.text.now in
    let is : width_of (front_of (drop at text)) ≡ None = search rules in
    c.loop-at.invariant.0 ∙ ap (large_first c.args.large) (lexed_nothing text at c.loop-at-test.true is)

pub loop-at-preserved : goal.loop-at-preserved
loop-at-preserved c =
    let at = c.loop-at.at in
    let n = c.in-Some.width in
    let text = c.args.text.now in
    let is : width_of (front_of (drop at text)) ≡ Some n = search rules in
    let at_hand : WidthWithin c.in_ok-width_at.field-0 (length text - at) = search rules in
    let within : WidthWithin (Some n) (length text - at) = subst (λ w. WidthWithin w (length text - at)) c.in-Some.is at_hand in (
      c.loop-at.invariant.0 ∙ lexed_width text c.args.large at n (front_of (drop at text)) c.loop-at-test.true within.0 refl is,
      omega (arith, within.1, c.loop-at-test.true),
    )
