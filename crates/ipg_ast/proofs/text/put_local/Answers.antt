use Rattle.std.proofs.Common.{rules, ◌∷◌, ◌++◌, []}
use Rattle.ipg_ast.specs.Spelling.{local_alts_tokens}
use Rattle.ipg_ast.specs.Canonical.{tokens_text}
use Rattle.ipg_ast.specs.declared.grammar.Rule.{out-Rule}
use Rattle.ipg_ast.proofs.Forms.{local_text}
use Rattle.ipg_ast.proofs.Texts.{Wrote, then, finally}
use Rattle.ipg_ast.proofs.text.put_local.Goals as goal

pub returns : goal.returns
returns c =
    let a : Wrote c.args.out.now.items ((out-Rule c.args.rule.now).name.name ++ (32 ∷ [])) c.put.new.out.items = record { is = search rules } in
    let b : Wrote c.put.new.out.items (tokens_text (local_alts_tokens (out-Rule c.args.rule.now).alts)) c.put_local_alts.new.out.items =
    record { is = search rules } in
    finally _ _ _ _ (then a b) (local_text _ _) c.put_end.ensures
