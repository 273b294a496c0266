use Rattle.std.proofs.Common.{refl}
use Rattle.ipg_mach.proofs.verdict.verdict_known.Goals as goal

pub returns : goal.returns
returns g c src n answer known entry holds =
    c.verdict_with.ensures src n answer (record { bodies = 0; hits = 1; deepest = 0 }) known entry
    (record { bodies = refl; hits = refl; deepest = refl }) holds
