use Rattle.std.proofs.Common.{◌≡◌, drop, flat_map}
use Rattle.ipg_names.specs.Fault.{earlier, first_of}
use Rattle.ipg_names.specs.Faults.{case_faults}
use Rattle.ipg_names_scope.specs.Site.{spot_scope}
use Rattle.ipg_names.proofs.faults.cases_fault.Given as goal

abbrev pub invariant-loop-case : goal.invariant-loop-case
invariant-loop-case l =
    earlier l.fault (first_of (flat_map (case_faults (spot_scope l.spot)) (drop l.case-index l.cases))) ≡ first_of (flat_map (case_faults
    (spot_scope l.spot)) l.cases)
