use Rattle.std.proofs.Common.{rules, ◌≡◌, ◌+◌, ◌-◌, ◌≤◌, ◌^◌, ◌++◌, ◌∷◌, [], Err, drop, length, inr, ap, ◌∙◌, sym, subst, arith}
use Rattle.ipg_read_tokens.specs.Lexical.{front_of, lexed, large_first}
use Rattle.ipg_read_tokens.specs.Scanning.{after_tokens}
use Rattle.ipg_read_tokens.specs.Within.{width_of, TakesWithin}
use Rattle.ipg_read_tokens.specs.declared.token.Token.{Token}
use Rattle.ipg_read_tokens.specs.declared.front.Front.TheVariants.{Nothing, Blank, Large, Token as Begins}
use Rattle.ipg_read_tokens.proofs.Lexemes.{tokens_short, lexed_nothing, lexed_blank, lexed_large, lexed_token, after_large, after_one}
use Rattle.ipg_read_tokens.proofs.scan.tokens.Goals as goal

pub returns-in-Nothing : goal.returns-in-Nothing
returns-in-Nothing c =
    let at = c.loop-at.at in
    let text = c.args.text.now in
    let short : length text ≤ 2 ^ 20 = search rules in
    let is : front_of (drop at text) ≡ Nothing = search rules in
    inr (tokens_short text short ∙ c.loop-at.invariant.0
    ∙ ap (after_tokens c.loop-at.found.items) (lexed_nothing text at c.loop-at-test.true (ap width_of is)))

pub loop-at-preserved-in-Blank : goal.loop-at-preserved-in-Blank
loop-at-preserved-in-Blank c =
    let at = c.loop-at.at in
    let n = c.in-Blank.width in
    let text = c.args.text.now in
    let is : front_of (drop at text) ≡ Blank n = search rules in
    let at_hand : TakesWithin c.in_ok-begins_at.field-0 (length text - at) = search rules in
    let within : TakesWithin (Blank n) (length text - at) = subst (λ f. TakesWithin f (length text - at)) c.in-Blank.is at_hand in (
      c.loop-at.invariant.0 ∙ ap (after_tokens c.loop-at.found.items) (lexed_blank text at n c.loop-at-test.true within.0 is),
      omega (arith, within.1, c.loop-at-test.true),
    )

pub returns-in-Large : goal.returns-in-Large
returns-in-Large c =
    let at = c.loop-at.at in
    let n = c.in-Large.width in
    let text = c.args.text.now in
    let short : length text ≤ 2 ^ 20 = search rules in
    let is : front_of (drop at text) ≡ Large n = search rules in
    let at_hand : TakesWithin c.in_ok-begins_at.field-0 (length text - at) = search rules in
    let within : TakesWithin (Large n) (length text - at) = subst (λ f. TakesWithin f (length text - at)) c.in-Large.is at_hand in
    let fault : large_first at (lexed (at + n) 0 (drop (at + n) text)) ≡ Err c.in_ok-past_large-in-Large.field-0 = search rules in
    inr (tokens_short text short ∙ c.loop-at.invariant.0
    ∙ ap (after_tokens c.loop-at.found.items) (lexed_large text at n c.loop-at-test.true within.0 is)
    ∙ after_large c.loop-at.found.items at (lexed (at + n) 0 (drop (at + n) text)) ∙ fault)

pub loop-at-preserved : goal.loop-at-preserved
loop-at-preserved c =
    let at = c.loop-at.at in
    let n = c.in-Token.width in
    let text = c.args.text.now in
    let found = c.loop-at.found.items in
    let token : Token = record { kind = c.in-Token.kind; span = record { from = at; to = at + n } } in
    let left = lexed (at + n) 0 (drop (at + n) text) in
    let is : front_of (drop at text) ≡ Begins c.in-Token.kind n = search rules in
    let at_hand : TakesWithin c.in_ok-begins_at.field-0 (length text - at) = search rules in
    let within : TakesWithin (Begins c.in-Token.kind n) (length text - at) = subst (λ f. TakesWithin f (length text - at)) c.in-Token.is at_hand in
    let pushed : c.push.new.self.items ≡ found ++ (token ∷ []) = search rules in (
      c.loop-at.invariant.0 ∙ ap (after_tokens found) (lexed_token text at n c.in-Token.kind c.loop-at-test.true within.0 is)
          ∙ after_one found token left ∙ ap (λ ts. after_tokens ts left) (sym pushed),
      omega (arith, within.1, c.loop-at-test.true),
    )
