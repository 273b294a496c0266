use Rattle.std.proofs.Common.{rules, ◌≡◌, ◌+◌, ◌≤◌, ◌++◌, ◌∷◌, [], drop, length, get_or, ap, ◌∙◌, sym, arith}
use Rattle.std.proofs.lemmas.List.{length-drop}
use Rattle.ipg_read_tokens.specs.Lexical.{quoted, item, after_bytes}
use Rattle.ipg_read_tokens.specs.declared.string.Item.TheVariants.{Byte}
use Rattle.ipg_read_tokens.proofs.Strings.{string_step}
use Rattle.ipg_read_tokens.proofs.string.string_at.Goals as goal

pub loop-at-preserved : goal.loop-at-preserved
loop-at-preserved c =
    let after = c.args.after.now in
    let at = c.loop-at.at in
    let n = c.in-Byte.width in
    let is : item (get_or after at 0) (drop (at + 1) after) ≡ Byte c.in-Byte.byte n = search rules in
    let within : (1 ≤ n) × (n ≤ length (drop (at + 1) after) + 1) = search rules in
    let pushed : c.push.new.self.items ≡ c.loop-at.bytes.items ++ (c.in-Byte.byte ∷ []) = search rules in (
      string_step after c.loop-at.bytes.items at c.in-Byte.byte n within.0 c.loop-at-test.true is c.loop-at.invariant.0
          ∙ ap (λ bs. after_bytes bs (at + n) (quoted 0 (drop (at + n) after))) (sym pushed),
      omega (arith, within.1, length-drop (at + 1) after, c.loop-at-test.true),
    )
