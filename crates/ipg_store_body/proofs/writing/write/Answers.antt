use Rattle.std.proofs.Common.{rules, ◌≡◌, subst}
use Rattle.ipg_reader.specs.Laws.{IsText, AreCounted}
use Rattle.ipg_store_body.specs.Format.{body_text}
use Rattle.ipg_store_body.specs.Fits.{RuleFits}
use Rattle.ipg_store_body.proofs.Bare.{is_body}
use Rattle.ipg_store_body.proofs.writing.write.Goals as goal

pub returns-clause-reads_back : goal.returns-clause-reads_back
returns-clause-reads_back c =
    let is : c.put_rules.new.out.items ≡ body_text c.args.core.now.names c.args.core.now.rules = search rules in
    is_body c.args.core.now c.put_rules.new.out.items (subst (AreCounted IsText) c.names.ensures c.in_ok-put_names.ensures.fits)
    (subst (AreCounted RuleFits) c.rules.ensures.rules c.in_ok-put_rules.ensures.fits) c.requires is
