use Rattle.std.proofs.Common.{[], refl, ◌∙◌}
use Rattle.ipg_proof.specs.Proves.{Accepts}
use Rattle.ipg_term.specs.Loops.{IsReason}
use Rattle.ipg_term.proofs.Listing.{handed_on}
use Rattle.ipg_term.proofs.Whole.{accepts, proves, is_reason}
use Rattle.ipg_term.proofs.checking.examined.Goals as goal

pub returns-in_err-dead-clause-accepted : goal.returns-in_err-dead-clause-accepted
returns-in_err-dead-clause-accepted c =
    let why = c.in_err-dead.field-0.0 in
    handed_on (λ _. Accepts c.args.g.now) (IsReason c.args.g.now) why c.from_residual-in_err-dead.result c.from_residual-in_err-dead.ensures.1
    (is_reason c.args.g.now c.in_ok-marks.marks.items c.as_slice.result.now c.as_slice-2.result.now [] []
    c.in_ok-marks.ensures.limit c.as_slice.ensures.value (c.as_slice-2.ensures.value ∙ c.in_ok-edges.ensures) refl (record { rise = tt; check = tt })
    c.live_cycles_are_cycles.ensures c.loops_are_live.ensures why c.in_err-dead.ensures)

pub returns-in_err-cycles-clause-accepted : goal.returns-in_err-cycles-clause-accepted
returns-in_err-cycles-clause-accepted c =
    let why = c.in_err-cycles.field-0.0 in
    handed_on (λ _. Accepts c.args.g.now) (IsReason c.args.g.now) why c.from_residual-in_err-cycles.result c.from_residual-in_err-cycles.ensures.1
    (is_reason c.args.g.now c.in_ok-marks.marks.items c.as_slice.result.now c.as_slice-2.result.now c.in_ok-dead.dead c.as_slice-3.result.now
    c.in_ok-marks.ensures.limit c.as_slice.ensures.value (c.as_slice-2.ensures.value ∙ c.in_ok-edges.ensures) c.as_slice-3.ensures c.in_ok-dead.ensures
    c.live_cycles_are_cycles.ensures c.loops_are_live.ensures why c.in_err-cycles.ensures)

pub returns-clause-accepted : goal.returns-clause-accepted
returns-clause-accepted c =
    accepts c.args.g.now c.in_ok-marks.marks.items c.as_slice.result.now c.as_slice-2.result.now c.in_ok-dead.dead c.as_slice-3.result.now
    c.in_ok-marks.ensures.limit c.as_slice.ensures.value (c.as_slice-2.ensures.value ∙ c.in_ok-edges.ensures) c.as_slice-3.ensures c.in_ok-dead.ensures
    c.in_ok-cycles.cycles c.in_ok-cycles.ensures c.loops_are_live.ensures

pub returns-clause-proved : goal.returns-clause-proved
returns-clause-proved c =
    proves c.args.g.now c.in_ok-marks.marks.items c.as_slice.result.now c.as_slice-2.result.now c.in_ok-dead.dead c.as_slice-3.result.now
    c.in_ok-marks.ensures.limit c.as_slice.ensures.value (c.as_slice-2.ensures.value ∙ c.in_ok-edges.ensures) c.as_slice-3.ensures c.in_ok-dead.ensures
    c.in_ok-cycles.cycles c.in_ok-cycles.ensures
