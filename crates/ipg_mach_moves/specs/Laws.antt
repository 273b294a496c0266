-- An open evaluation comes to what the grammar means.
use Rattle.std.specs.Prelude.{◌≡◌, ◌≢◌, ℕ, ◌≤◌, List, [], ◌∷◌, Result, Err, Option, Some, None}
use Rattle.std.specs.List.{AllByRecursion}
use Rattle.ipg_core.specs.Grammar.{Grammar, rule_at, holder_of}
use Rattle.ipg_core.specs.Part.{part}
use Rattle.ipg_core.specs.declared.grammar.CoreTerm.{CoreTerm}
use Rattle.ipg_core.specs.Tree.{Tree, Kid, Sub}
use Rattle.ipg_core.specs.Run.{Stop, Deep, Asked, Run}
use Rattle.ipg_core.specs.Meaning.{Call, Frame, State, den, Means}
use Rattle.ipg_mach_moves.specs.Moves.{Key, Entry, Known, lifted, parsed, silent, moves, opening, ended}

-- what is known of a key is the answer of its global rule on its interval of the input
pub record IsRight (g : Grammar) (s : List ℕ) (entry : Key × Result Tree Stop) : Type 0 where
  pub global : holder_of (rule_at g entry.0.rule) ≡ None
  pub height : ℕ
  pub is : den g height entry.0.rule (part s entry.0.from entry.0.to) [] ≡ entry.1
  pub settled : entry.1 ≢ Err Deep

abbrev pub AreRight : Grammar → List ℕ → Option Known → Type 0
AreRight g s None = Unit {0}
AreRight g s (Some known) = AllByRecursion (IsRight g s) known

-- it ends, and with what the grammar means, with a memo and without
abbrev pub EndsAsMeant : Type 0
EndsAsMeant = (g : Grammar) (s : List ℕ) (known : Option Known) (answer : Result Tree Stop)
    → AreRight g s known → Means g s answer → (n : ℕ) × (ended (moves n (opening g s known)) ≡ Some answer)

-- it ends in no other way
abbrev pub EndsOnlySo : Type 0
EndsOnlySo = (g : Grammar) (s : List ℕ) (known : Option Known) (answer other : Result Tree Stop) (n : ℕ)
    → AreRight g s known → Means g s answer → ended (moves n (opening g s known)) ≡ Some other → other ≡ answer

-- no more calls are open at once than calls may nest
abbrev pub StaysWithin : Type 0
StaysWithin = (g : Grammar) (s : List ℕ) (known : Option Known) (height n : ℕ)
    → AreRight g s known → den g height 0 s [] ≢ Err Deep → (moves n (opening g s known)).tally.deepest ≤ height

-- what is known is right at each move
abbrev pub StaysRight : Type 0
StaysRight = (g : Grammar) (s : List ℕ) (known : Option Known) (answer : Result Tree Stop) (n : ℕ)
    → AreRight g s known → Means g s answer → AreRight g s (moves n (opening g s known)).known

-- the run that makes these calls is this one, whatever it calls answers: it makes one at most, and its child is what that gives
abbrev pub ByCalls : Call → Frame → List Asked → Run Kid → Run Kid → Type 0
ByCalls call f [] quiet run = run ≡ quiet
ByCalls call f (ask ∷ []) quiet run =
    run ≡ record { answer = lifted (Sub ask.from ask.to) (call ask.callee (part f.bytes ask.from ask.to) ask.outer); asked = ask ∷ [] }
ByCalls call f (ask ∷ other ∷ more) quiet run = ⊥

-- what is parsed next hangs on the answer of one call at most, which is known before it is answered
abbrev pub ParsesByOneCall : Type 0
ParsesByOneCall = (call : Call) (f : Frame) (state : State) (u : ℕ) (entry : Entry) (term : CoreTerm)
    → (let quiet = parsed silent f state u entry term in ByCalls call f quiet.asked quiet (parsed call f state u entry term))
