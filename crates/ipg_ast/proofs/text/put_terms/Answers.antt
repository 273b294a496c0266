use Rattle.std.proofs.Common.{rules, ◌≡◌, ◌+◌, ◌∷◌, drop}
use Rattle.ipg_ast.specs.Spelling.{term_tokens, terms_tokens}
use Rattle.ipg_ast.specs.Canonical.{tokens_text}
use Rattle.ipg_ast.proofs.Lists.{terms_next}
use Rattle.ipg_ast.proofs.Texts.{at_item, Wrote, turn}
use Rattle.ipg_ast.proofs.text.put_terms.Goals as goal

pub loop-term-preserved : goal.loop-term-preserved
loop-term-preserved c =
    let here : drop c.loop-term.term-index c.args.terms.now ≡ c.term-item.result ∷ drop (c.loop-term.term-index + 1) c.args.terms.now =
    at_item c.args.terms.now c.loop-term.term-index _ c.term-item.is (search rules) in
    let wrote : Wrote c.loop-term.out.items (tokens_text (term_tokens c.term-item.result)) c.put_term.new.out.items = record { is = search rules } in
    turn (tokens_text (terms_tokens (drop (c.loop-term.term-index + 1) c.args.terms.now))) _ _ wrote (terms_next _ _ _ here) c.loop-term.invariant
