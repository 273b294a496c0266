use Rattle.ipg_names.specs.Faults.{case_faults}
use Rattle.ipg_names_scope.specs.Site.{spot_scope}
use Rattle.ipg_names.proofs.Firsts.{First, turn, done}
use Rattle.ipg_names.proofs.faults.cases_fault.Goals as goal

pub loop-case-preserved : goal.loop-case-preserved
loop-case-preserved c =
    let first : First c.case_fault.result (case_faults (spot_scope c.args.spot.now) c.case-item.result) = record { is = c.case_fault.ensures } in
    turn (case_faults (spot_scope c.args.spot.now)) _ _ _ _ _ _ c.case-item.is c.loop-case-test.true first c.earlier-fault.ensures c.loop-case.invariant

pub returns : goal.returns
returns c = done (case_faults (spot_scope c.args.spot.now)) _ _ _ _ c.loop-case-test.false c.loop-case.invariant
