-- What holds of the notes of a cycle.
use Rattle.std.specs.Prelude.{◌≡◌, ℕ, ℤ, List}
use Rattle.ipg_ast.specs.declared.grammar.Grammar as written
use Rattle.ipg_core.specs.Grammar.{Grammar}
use Rattle.ipg_core.specs.MustTouch.{Marks}
use Rattle.ipg_app_values.specs.Notes.{AreNotes}

-- of a cycle one thing is noted
abbrev pub NotedOnce : Type 0
NotedOnce =
    (g : written.Grammar) (core : Grammar) (marks : Marks) (cycle : List ℕ) (eoi : ℤ) (one other : List ℕ)
    → AreNotes g core marks cycle eoi one → AreNotes g core marks cycle eoi other → one ≡ other

-- it can't be that there are none
abbrev pub NotedSomehow : Type 0
NotedSomehow = (g : written.Grammar) (core : Grammar) (marks : Marks) (cycle : List ℕ) (eoi : ℤ) → ¬ ((text : List ℕ) → ¬ AreNotes g core marks cycle eoi text)
