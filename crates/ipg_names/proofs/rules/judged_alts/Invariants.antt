use Rattle.std.proofs.Common.{◌≡◌, ◌++◌, drop}
use Rattle.ipg_names.specs.Fault.{earlier, first_of}
use Rattle.ipg_names.specs.Resolved.{alts_from}
use Rattle.ipg_names.specs.Faults.{alts_faults}
use Rattle.ipg_names_scope.specs.View.{entry_view, entries_view}
use Rattle.ipg_names_scope.specs.Lookup.{shown}
use Rattle.ipg_names.proofs.rules.judged_alts.Given as goal

abbrev pub invariant-loop-a : goal.invariant-loop-a
invariant-loop-a l =
    let roster = entries_view l.tables.roster.now in
    let names = shown l.tables.attrs.now.names in
    let entry = entry_view l.entry in
    record {
      made : l.made.items ++ alts_from roster names entry l.rule l.a (drop l.a l.alts) ≡ alts_from roster names entry l.rule 0 l.alts;
      fault : earlier l.fault (first_of (alts_faults roster names entry l.rule l.a (drop l.a l.alts))) ≡ first_of
          (alts_faults roster names entry l.rule 0 l.alts);
    }
