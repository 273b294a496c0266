-- What holds of completed grammars.
use Rattle.ipg_core.specs.Good.{WellFormed}
use Rattle.ipg_names.specs.Resolved.{Resolved}
use Rattle.ipg_names.specs.Bare.{bare}
use Rattle.ipg_complete.specs.Unordered.{core_of}
use Rattle.ipg_complete.specs.Completion.{completed}

-- with the intervals written out, a grammar is well formed where it is as it is written
abbrev pub CompletedIsFormed : Type 0
CompletedIsFormed = (n : Resolved) → WellFormed (bare n) → WellFormed (core_of (completed n))
