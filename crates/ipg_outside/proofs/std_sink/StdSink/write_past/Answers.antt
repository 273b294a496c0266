use Rattle.std.proofs.lemmas.Result.{err_from_is_err_and}
use Rattle.ipg_outside.proofs.Outputs.{tells-broken}
use Rattle.ipg_outside.proofs.std_sink.StdSink.write_past.Goals as goal

pub returns-in_err-hand_on-clause-broken : goal.returns-in_err-hand_on-clause-broken
returns-in_err-hand_on-clause-broken g c =
    let p = err_from_is_err_and c.from_residual.result c.from_residual.ensures.1 in
    rw p.1 (tells-broken _ _ _ c.in_err-hand_on.ensures.broken)
