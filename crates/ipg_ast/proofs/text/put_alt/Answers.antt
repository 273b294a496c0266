use Rattle.std.proofs.Common.{rules, ◌++◌, ap, ◌∙◌, sym}
use Rattle.ipg_ast.specs.Spelling.{terms_tokens, where_tokens}
use Rattle.ipg_ast.specs.Canonical.{tokens_text}
use Rattle.ipg_ast.specs.declared.grammar.Alt.{out-Alt}
use Rattle.ipg_ast.proofs.Texts.{Wrote, finally, text_append}
use Rattle.ipg_ast.proofs.text.put_alt.Goals as goal

pub returns : goal.returns
returns c =
    let a : Wrote c.args.out.now.items (tokens_text (terms_tokens (out-Alt c.args.alt.now).terms)) c.put_terms.new.out.items = record { is = search rules } in
    finally _ _ _ _ a (ap (λ rs. tokens_text (terms_tokens (out-Alt c.args.alt.now).terms) ++ tokens_text (where_tokens rs)) c.as_slice-2.ensures
    ∙ sym (text_append (terms_tokens (out-Alt c.args.alt.now).terms) (where_tokens (out-Alt c.args.alt.now).locals))) c.put_where.ensures
