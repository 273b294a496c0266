use Rattle.std.proofs.Common.{rules, ◌≡◌, ◌+◌, ◌∷◌, ◌++◌, [], drop, refl}
use Rattle.ipg_ast.specs.Spelling.{terms_tokens, local_alts_from}
use Rattle.ipg_ast.specs.Canonical.{tokens_text}
use Rattle.ipg_ast.specs.declared.token.TokenKind.TheVariants.{Symbol}
use Rattle.ipg_ast.specs.declared.grammar.Alt.{out-Alt}
use Rattle.ipg_ast.proofs.Lists.{local_alts_next}
use Rattle.ipg_ast.proofs.Texts.{at_item, Wrote, then, turn}
use Rattle.ipg_ast.proofs.text.put_local_alts.Goals as goal

pub loop-alt-preserved : goal.loop-alt-preserved
loop-alt-preserved c =
    let here : drop c.loop-alt.alt-index c.args.alts.now ≡ c.alt-item.result ∷ drop (c.loop-alt.alt-index + 1) c.args.alts.now =
    at_item c.args.alts.now c.loop-alt.alt-index _ c.alt-item.is (search rules) in
    let mark : Wrote c.loop-alt.out.items (c.loop-alt.mark.now ++ (32 ∷ [])) c.put.new.out.items = record { is = search rules } in
    let wrote : Wrote c.put.new.out.items (tokens_text (terms_tokens (out-Alt c.alt-item.result).terms)) c.put_terms.new.out.items =
    record { is = search rules } in (
      turn (tokens_text (local_alts_from (Symbol (47 ∷ [])) (drop (c.loop-alt.alt-index + 1) c.args.alts.now))) _ _ (then mark wrote)
          (local_alts_next _ _ _ _ c.loop-alt.invariant.1 here) c.loop-alt.invariant.0,
      refl,
    )
