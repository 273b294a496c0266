use Rattle.std.proofs.Common.{subst}
use Rattle.ipg_core.specs.Good.{Good}
use Rattle.ipg_app_grammar.proofs.checks.is_speakable.Goals as goal

pub returns : goal.returns
returns c =
    let good = subst Good c.core.ensures.core c.rules-rules.ensures.good in
    λ proves. c.proves_is_speakable.ensures c.args.grammar.now c.args.certificate.now good proves c.is_typed.ensures
