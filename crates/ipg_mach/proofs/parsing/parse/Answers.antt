use Rattle.std.proofs.lemmas.Result.{IfOk-weaker}
use Rattle.ipg_mach.specs.Stage.{source}
use Rattle.ipg_mach.specs.Turning.{known_at}
use Rattle.ipg_mach.proofs.Ending as ending
use Rattle.ipg_mach.proofs.parsing.parse.Goals as goal

pub returns : goal.returns
returns g c =
    IfOk-weaker c.outcome_of.result _ _
    (λ outcome gives grammar answer stand means.
    let input = c.args.input.now in
    let it = c.in_ok-verdict.ensures grammar (known_at c.args.remember) answer stand (ending.knows_nothing grammar input c.args.remember)
    (c.in_ok-kept.ensures.known (source c.args.tables.now input)) means in
    (it.0, ending.evaluates grammar input c.args.remember answer it.0 it.1 it.2, gives answer it.0 it.1 it.4))
    c.outcome_of.ensures
