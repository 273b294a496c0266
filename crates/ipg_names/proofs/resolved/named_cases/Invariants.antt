use Rattle.std.proofs.Common.{◌≡◌, ◌++◌, map, drop}
use Rattle.ipg_names.specs.Resolved.{case_in}
use Rattle.ipg_names_scope.specs.Site.{spot_scope}
use Rattle.ipg_names.proofs.resolved.named_cases.Given as goal

abbrev pub invariant-loop-case : goal.invariant-loop-case
invariant-loop-case l = l.made.items ++ map (case_in (spot_scope l.spot)) (drop l.case-index l.cases) ≡ map (case_in (spot_scope l.spot)) l.cases
