use Rattle.std.proofs.Common.{◌≡◌, drop}
use Rattle.ipg_names.specs.Fault.{earlier, first_of}
use Rattle.ipg_names_scope.specs.View.{entries_view}
use Rattle.ipg_names.proofs.HeadTable.{heads_from}
use Rattle.ipg_names.proofs.heads.heads_fault.Given as goal

abbrev pub invariant-loop-r : goal.invariant-loop-r
invariant-loop-r l =
    let all = entries_view l.roster in
    earlier l.fault (first_of (heads_from all l.r (entries_view (drop l.r l.roster)))) ≡ first_of (heads_from all 0 all)
