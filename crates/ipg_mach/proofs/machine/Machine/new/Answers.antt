use Rattle.std.proofs.lemmas.Result.{IfOk-weaker}
use Rattle.ipg_mach.specs.Stage.{source}
use Rattle.ipg_mach.specs.Turning.{known_at}
use Rattle.ipg_mach.proofs.machine.Machine.new.Goals as goal

pub returns : goal.returns
returns g c =
    IfOk-weaker c.over.result _ _
    (λ machine opens grammar stand. opens grammar (known_at c.args.remember) stand
    (c.in_ok-kept.ensures.known (source c.args.tables.now c.args.input.now)))
    c.over.ensures
