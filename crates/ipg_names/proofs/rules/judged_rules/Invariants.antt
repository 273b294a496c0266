use Rattle.std.proofs.Common.{◌≡◌, ◌++◌, drop}
use Rattle.ipg_names.specs.Fault.{earlier, first_of}
use Rattle.ipg_names.specs.Resolved.{rules_from}
use Rattle.ipg_names.specs.Faults.{rules_faults}
use Rattle.ipg_names_scope.specs.View.{entries_view}
use Rattle.ipg_names_scope.specs.Lookup.{shown}
use Rattle.ipg_names.proofs.rules.judged_rules.Given as goal

abbrev pub invariant-loop-r : goal.invariant-loop-r
invariant-loop-r l =
    let roster = entries_view l.tables.roster.now in
    let names = shown l.tables.attrs.now.names in
    record {
      made : l.made.items ++ rules_from roster names l.r (entries_view (drop l.r l.roster)) ≡ rules_from roster names 0 (entries_view l.roster);
      fault : earlier l.fault (first_of (rules_faults roster names l.r (entries_view (drop l.r l.roster)))) ≡ first_of (rules_faults roster names 0
          (entries_view l.roster));
    }
