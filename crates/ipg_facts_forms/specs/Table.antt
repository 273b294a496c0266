-- The table of variables, as the list of them.
use Rattle.std.specs.Prelude.{List, map}
use denote.Ref.{Bor}
use Rattle.indexmap.specs.IndexSet.{IndexSet}
use Rattle.ipg_facts_variables.specs.declared.variable.Variable.{Variable}

abbrev pub variables_shown : {S : Type 0} → IndexSet (Bor Variable) S → List Variable
variables_shown table = map (λ variable. variable.now) table.keys
