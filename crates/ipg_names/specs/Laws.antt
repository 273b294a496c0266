-- The laws of names: when the conditions hold, which fault is told, what the faults of a text are.
use Rattle.std.specs.Prelude.{◌≡◌, ◌↔◌, ◌^◌, ◌≤◌, ℕ, List, [], Some, None, length}
use Rattle.ipg_ast.specs.declared.grammar.Grammar.{Grammar}
use Rattle.ipg_core.specs.Good.{WellFormed}
use Rattle.ipg_ast.specs.Spelling.{grammar_tokens}
use Rattle.ipg_ast.specs.Shape.{IsFormed}
use Rattle.ipg_names.specs.declared.fault.NameFault.{NameFault}
use Rattle.ipg_names.specs.declared.fault.NameFault.TheVariants.{DuplicateRule}
use Rattle.ipg_names.specs.Readable.{IsReadable}
use Rattle.ipg_names.specs.Resolved.{names_of}
use Rattle.ipg_names.specs.Bare.{bare}
use Rattle.ipg_names.specs.Fault.{first_of}
use Rattle.ipg_names.specs.Faults.{faults_of}
use Rattle.ipg_names.specs.Told.{Stands, IsFirst}
use Rattle.ipg_names.specs.Refusals.{IsDuplicateRule, IsRefusal, IsFirstRefusal}

-- a well formed grammar of at most 2^20 tokens, and so each that is read, meets the conditions
abbrev pub FormedIsReadable : Type 0
FormedIsReadable = (g : Grammar) → IsFormed g → length (grammar_tokens g) ≤ 2 ^ 20 → IsReadable g

-- of any list of faults the first is told, and none exactly of the empty list
abbrev pub FirstIsTold : Type 0
FirstIsTold = (faults : List NameFault) → ((first_of faults ≡ None) ↔ (faults ≡ [])) × ((fault : NameFault) → first_of faults ≡ Some fault
    → IsFirst faults fault)

-- the faults of heads are those of names that are taken
abbrev pub HeadsStand : Type 0
HeadsStand = (g : Grammar) (at : ℕ) → Stands (faults_of g) (DuplicateRule at) ↔ IsDuplicateRule g at

-- where no rule's name is taken, each fault of a text is one that holds of its place
abbrev pub FaultsStand : Type 0
FaultsStand = (g : Grammar) → ((at : ℕ) → IsDuplicateRule g at → ⊥) → (fault : NameFault) → Stands (faults_of g) fault ↔ IsRefusal g fault

-- the first fault that holds of a place is told, and none exactly where none holds anywhere
abbrev pub FirstIsRefused : Type 0
FirstIsRefused = (g : Grammar) → ((first_of (faults_of g) ≡ None) ↔ ((fault : NameFault) → IsRefusal g fault → ⊥)) × ((fault : NameFault)
    → (first_of (faults_of g) ≡ Some fault) ↔ IsFirstRefusal g fault)

-- what the names of a readable text without a fault stand for is well formed, the intervals that aren't written left aside
abbrev pub FaultlessIsFormed : Type 0
FaultlessIsFormed = (g : Grammar) → IsReadable g → first_of (faults_of g) ≡ None → WellFormed (bare (names_of g))
