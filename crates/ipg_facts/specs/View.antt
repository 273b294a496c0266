-- What the code's scope stands for.
use Rattle.ipg_facts.specs.declared.scope.Scope as code
use Rattle.ipg_facts.specs.Reading.{Scope}

abbrev pub scope_of : code.Scope → Scope
scope_of s = record { edition = s.edition; side = s.side; names = s.names.now; marks = s.marks.now; terms = s.terms.now; arrays = s.arrays.items }
