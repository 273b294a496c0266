-- What holds of failures.
use Rattle.std.specs.Prelude.{◌≡◌, ◌≢◌, ◌⊎◌, ◌≤◌, ℕ, suc, ◌+◌, List, [], ◌∷◌, length, Option, Some, Bool, true, false, Result, Ok, Err, is_some}
use Rattle.ipg_core.specs.Good.{Good}
use Rattle.ipg_core.specs.Grammar.{Grammar}
use Rattle.ipg_core.specs.Tree.{Tree}
use Rattle.ipg_core.specs.Environment.{Values}
use Rattle.ipg_core.specs.declared.grammar.CoreTerm.{CoreTerm}
use Rattle.ipg_core.specs.declared.grammar.CoreTerm.TheVariants.{Repeat, Many}
use Rattle.ipg_core.specs.Run.{Stop, NoTree, OutOfRange, Deep}
use Rattle.ipg_core.specs.Meaning.{Call, Frame, State}
use Rattle.ipg_mach_moves.specs.Moves.{Entry, Outside, Items, Turns, Key, Known, Evaluation, parsed, advance, known_of, moves, opening, ended}
use Rattle.ipg_mach_failures.specs.Failing.{term_fails}
use Rattle.ipg_mach_failures.specs.declared.story.Story.{Story}
use Rattle.ipg_mach_failures.specs.Furthest.{stories, alike, is_told, Furthest, furthest}

-- a term may be entered so
abbrev pub MayEnter : Entry → CoreTerm → Type 0
MayEnter Outside term = Unit {0}
MayEnter (Items (suc n) i items) (Repeat first last sym from to) = Unit {0}
MayEnter (Turns p r items) (Many sym from to) = Unit {0}
MayEnter entry term = ⊥

abbrev pub is_no_tree : {A : Type 0} → Result A Stop → Bool
is_no_tree (Ok a) = false
is_no_tree (Err NoTree) = true
is_no_tree (Err OutOfRange) = false
is_no_tree (Err Deep) = false

-- whatever is called, it isn't answered that there is no tree
abbrev pub NeverNone : Call → Type 0
NeverNone call = (r : ℕ) (s : List ℕ) (outer : Values) → is_no_tree (call r s outer) ≡ false

-- the term, or its next item, has no result: an item of a repetition by what is parsed for it, since the repetition has one then
abbrev pub has_none : Call → Frame → State → ℕ → Entry → CoreTerm → Bool
has_none call f state u Outside term = is_no_tree (advance call f state u Outside (Some term)).answer
has_none call f state u (Items n i items) term = is_no_tree (advance call f state u (Items n i items) (Some term)).answer
has_none call f state u (Turns p r items) term = is_no_tree (parsed call f state u (Turns p r items) term).answer

-- a term fails by itself exactly where it has no result though each call that it makes has one
abbrev pub FailsWhereNone : Type 0
FailsWhereNone = (call : Call) (f : Frame) (state : State) (u : ℕ) (entry : Entry) (term : CoreTerm)
    → NeverNone call → MayEnter entry term → is_some (term_fails f state u entry term) ≡ has_none call f state u entry term

-- without answers of calls that have no tree, an evaluation that ends with no tree has met a failure
abbrev pub SomeWhereNone : Type 0
SomeWhereNone = (g : Grammar) (s : List ℕ) (known : Option Known) (n : ℕ) → Good g → ((key : Key) → known_of known key ≢ Some (Err NoTree))
    → ended (moves n (opening g s known)) ≡ Some (Err NoTree) → stories n (opening g s known) ≢ []

-- it meets none once it has ended
abbrev pub NoneBehindEnd : Type 0
NoneBehindEnd = (e : Evaluation) (answer : Result Tree Stop) (n k : ℕ) → ended (moves n e) ≡ Some answer → stories (n + k) e ≡ stories n e

-- ---- the furthest

abbrev pub Has : List Story → Story → Type 0
Has [] one = ⊥
Has (first ∷ met) one = (first ≡ one) ⊎ Has met one

abbrev pub AreUnlike : List Story → Type 0
AreUnlike [] = Unit {0}
AreUnlike (one ∷ told) = ((other : Story) → Has told other → alike one.failure other.failure ≡ false) × AreUnlike told

-- what is told of failures that were met is met at this place, none was met further, and no two that are told are alike; eight
-- are told at most, and where there are no more, each that was met there is told, or one alike
pub record AreFurthest (met : List Story) (f : Furthest) (place : ℕ) : Type 0 where
  pub told : (one : Story) → Has f.told one → Has met one × (one.failure.place ≡ place)
  pub greatest : (one : Story) → Has met one → one.failure.place ≤ place
  pub all : (one : Story) → Has met one → one.failure.place ≡ place → f.more ≡ 0 → is_told f.told one.failure ≡ true
  pub unlike : AreUnlike f.told
  pub few : length f.told ≤ 8
  pub some : f.told ≢ []

-- so are the furthest of failures, where one was met
abbrev pub FurthestAreFurthest : Type 0
FurthestAreFurthest = (first : Story) (met : List Story) → (place : ℕ) × AreFurthest (first ∷ met) (furthest (first ∷ met)) place
