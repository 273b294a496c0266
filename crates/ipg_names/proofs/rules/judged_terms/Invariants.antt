use Rattle.std.proofs.Common.{◌≡◌, ◌++◌, drop}
use Rattle.ipg_names.specs.Fault.{earlier, first_of}
use Rattle.ipg_names.specs.Resolved.{terms_from}
use Rattle.ipg_names.specs.Faults.{terms_faults}
use Rattle.ipg_names_scope.specs.Site.{AreMarks, scopes_at}
use Rattle.ipg_names.proofs.rules.judged_terms.Given as goal

abbrev pub invariant-loop-u : goal.invariant-loop-u
invariant-loop-u l =
    let scopes = scopes_at l.tables l.entry l.at l.terms in
    record {
      marks : AreMarks l.terms l.u l.marks;
      made : l.made.items ++ terms_from scopes l.u (drop l.u l.terms) ≡ terms_from scopes 0 l.terms;
      fault : earlier l.fault (first_of (terms_faults scopes l.u (drop l.u l.terms))) ≡ first_of (terms_faults scopes 0 l.terms);
    }
