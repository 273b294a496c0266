-- What holds of findings.
use Rattle.std.specs.Prelude.{◌≡◌, ◌≢◌, ℕ, ◌-◌, ◌^◌, min, List, [], Result, Ok, Err, Some}
use Rattle.ipg_core.specs.Good.{Good}
use Rattle.ipg_core.specs.Grammar.{Grammar}
use Rattle.ipg_core.specs.Tree.{Tree}
use Rattle.ipg_core.specs.Run.{Stop, NoTree, OutOfRange}
use Rattle.ipg_core.specs.Meaning.{Means}
use Rattle.ipg_mach_moves.specs.Moves.{opening}
use Rattle.ipg_mach_failures.specs.Furthest.{stories}
use Rattle.ipg_mach_failures.specs.Laws.{AreFurthest}
use Rattle.ipg_mach_watch.specs.declared.findings.End.{End}
use Rattle.ipg_mach_watch.specs.declared.findings.End.TheVariants as end
use Rattle.ipg_mach_watch.specs.Found.{Found, AreFindings}

-- they are one
abbrev pub OneFindings : Type 0
OneFindings = (g : Grammar) (s : List ℕ) (a b : Found) → AreFindings g s a → AreFindings g s b → a ≡ b

-- it ended with this answer
abbrev pub IsEnd : End → Result Tree Stop → Type 0
IsEnd end.Tree (Ok tree) = Unit {0}
IsEnd end.NoTree (Err NoTree) = Unit {0}
IsEnd (end.Range call) (Err OutOfRange) = Unit {0}
IsEnd one answer = ⊥

-- it ended as the grammar means
abbrev pub EndIsMeant : Type 0
EndIsMeant = (g : Grammar) (s : List ℕ) (answer : Result Tree Stop) (f : Found) → Means g s answer → AreFindings g s f → IsEnd f.end answer

-- where a good grammar has no tree, a failure is told
abbrev pub ToldWhereNone : Type 0
ToldWhereNone = (g : Grammar) (s : List ℕ) (f : Found) → Good g → AreFindings g s f → f.end ≡ end.NoTree → f.told ≢ []

-- what is told are the furthest of the failures that the evaluation met
abbrev pub ToldAreFurthest : Type 0
ToldAreFurthest = (g : Grammar) (s : List ℕ) (f : Found) → AreFindings g s f → f.told ≢ []
    → (n : ℕ) × (more : ℕ) × (place : ℕ) × AreFurthest (stories n (opening g s (Some []))) (record { told = f.told; more = more }) place
    × (f.more ≡ min more (2 ^ 64 - 1))
