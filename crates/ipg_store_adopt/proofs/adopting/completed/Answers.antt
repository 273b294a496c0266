use Rattle.std.proofs.Common.{sym, subst}
use Rattle.ipg_core.specs.Good.{WellFormed}
use Rattle.ipg_complete.specs.Unordered.{core_of}
use Rattle.ipg_store_adopt.proofs.Bodies.{stays}
use Rattle.ipg_store_adopt.proofs.adopting.completed.Goals as goal

pub invariant_of-result : goal.invariant_of-result
invariant_of-result c =
    let body = c.args.body in
    subst (λ rules. WellFormed (core_of (record { rules = rules; names = body.names }))) (sym c.in_ok-completed_rules.ensures)
    (subst WellFormed (sym (stays body c.requires.fits)) c.requires.well_formed)
