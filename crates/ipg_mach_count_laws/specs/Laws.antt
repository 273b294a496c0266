-- What the tally of an evaluation comes to, and what is known at its end.
use Rattle.std.specs.Prelude.{◌≡◌, ◌≢◌, ℕ, ◌+◌, ◌≤◌, List, [], ◌∷◌, ◌++◌, length, Result, Err, Some, None}
use Rattle.ipg_core.specs.Good.{Good}
use Rattle.ipg_core.specs.Grammar.{Grammar, rule_at, holder_of}
use Rattle.ipg_core.specs.Grown.{IsInput}
use Rattle.ipg_core.specs.Tree.{Tree}
use Rattle.ipg_core.specs.Run.{Stop, OutOfRange, Deep}
use Rattle.ipg_core.specs.Meaning.{den}
use Rattle.ipg_mach_moves.specs.Moves.{Key, Evaluation, Known, find, moves, opening, ended}
use Rattle.ipg_mach_moves.specs.Laws.{AreRight}
use Rattle.ipg_mach_count_laws.specs.Counts.{count, nest, Has, first_key, IsReach, calls_by}
use Rattle.ipg_mach_count_laws.specs.Depth.{nested}
use Rattle.ipg_mach_count_laws.specs.Kept.{AreAmong, AreSame, AreKnown, keys_of, IsFresh}

-- without a memo: as many bodies as are counted, no hits, and as many calls open at once as calls nest
abbrev pub CountsWithoutMemo : Type 0
CountsWithoutMemo = (g : Grammar) (s : List ℕ) (height n : ℕ) (answer : Result Tree Stop)
    → holder_of (rule_at g 0) ≡ None → den g height 0 s [] ≢ Err Deep → ended (moves n (opening g s None)) ≡ Some answer
    → (moves n (opening g s None)).tally ≡ record { bodies = count g height 0 s []; hits = 0; deepest = nest g height 0 s [] }

-- with a memo that knows nothing: a body for each key that is reached, and every call of a global rule is a body or a hit
abbrev pub CountsWithMemo : Type 0
CountsWithMemo = (g : Grammar) (s : List ℕ) (height n : ℕ) (answer : Result Tree Stop)
    → den g height 0 s [] ≢ Err Deep → ended (moves n (opening g s (Some []))) ≡ Some answer
    → (let tally = (moves n (opening g s (Some []))).tally in
    (keys : List Key) × IsReach g s height keys × (tally.bodies ≡ length keys) × (tally.bodies + tally.hits ≡ 1 + calls_by g s height keys))

-- ---- where answers are known beforehand

-- a body for each key that has to run, and every call of a global rule that these make is a body or a hit
abbrev pub CountsOver : Type 0
CountsOver = (g : Grammar) (s : List ℕ) (height n : ℕ) (known : Known) (kept : List Key) (answer : Result Tree Stop)
    → AreRight g s (Some known) → AreKnown known kept → (Has kept (first_key s) → ⊥) → den g height 0 s [] ≢ Err Deep
    → ended (moves n (opening g s (Some known))) ≡ Some answer
    → (let tally = (moves n (opening g s (Some known))).tally in
    (keys : List Key) × IsFresh g s height kept keys × (tally.bodies ≡ length keys) × (tally.bodies + tally.hits ≡ 1 + calls_by g s height keys))

-- as many calls are open at most as nest where the answers of known keys are taken
abbrev pub DeepestOver : Type 0
DeepestOver = (g : Grammar) (s : List ℕ) (height n : ℕ) (known : Known) (kept : List Key) (answer : Result Tree Stop)
    → AreRight g s (Some known) → AreKnown known kept → den g height 0 s [] ≢ Err Deep → ended (moves n (opening g s (Some known))) ≡ Some answer
    → (moves n (opening g s (Some known))).tally.deepest ≡ (nested g height kept 0 0 s []).most

-- after an answer within range all keys that were kept are known, all that had to run but for the first, and no others; with
-- the answer of the first it is known too
abbrev pub KnownAtEnd : Type 0
KnownAtEnd = (g : Grammar) (s : List ℕ) (height n : ℕ) (known : Known) (kept keys : List Key) (answer : Result Tree Stop)
    → AreRight g s (Some known) → AreKnown known kept → (Has kept (first_key s) → ⊥) → den g height 0 s [] ≢ Err Deep
    → ended (moves n (opening g s (Some known))) ≡ Some answer → answer ≢ Err OutOfRange → IsFresh g s height kept keys
    → (later : Known) × ((moves n (opening g s (Some known))).known ≡ Some later) × (find later (first_key s) ≡ None)
    × AreKnown ((first_key s, answer) ∷ later) (keys ++ kept)

-- each list of answers is of some keys
abbrev pub KeysAreKnown : Type 0
KeysAreKnown = (known : Known) → AreKnown known (keys_of known)

-- ---- which keys have to run

-- where the first is kept, none
abbrev pub NoneWhereFirstKept : Type 0
NoneWhereFirstKept = (g : Grammar) (s : List ℕ) (h : ℕ) (kept : List Key) → Has kept (first_key s) → IsFresh g s h kept []

-- where none is kept, those that are reached
abbrev pub AllWhereNoneKept : Type 0
AllWhereNoneKept = (g : Grammar) (s : List ℕ) (h : ℕ) (keys : List Key)
    → (IsReach g s h keys → IsFresh g s h [] keys) × (IsFresh g s h [] keys → IsReach g s h keys)

-- where more are kept, no others, and no more
abbrev pub FewerWhereMoreKept : Type 0
FewerWhereMoreKept = (g : Grammar) (s : List ℕ) (h : ℕ) (kept more_kept fewer keys : List Key) → AreAmong kept more_kept
    → IsFresh g s h kept keys → IsFresh g s h more_kept fewer → AreAmong fewer keys × (length fewer ≤ length keys)

-- so they are one set, of one number, and make one number of calls
abbrev pub OneFresh : Type 0
OneFresh = (g : Grammar) (s : List ℕ) (h : ℕ) (kept same_kept keys same : List Key) → AreSame kept same_kept
    → IsFresh g s h kept keys → IsFresh g s h same_kept same
    → AreSame keys same × (length keys ≡ length same) × (calls_by g s h keys ≡ calls_by g s h same)

-- at each height that suffices
abbrev pub FreshAtAnyHeight : Type 0
FreshAtAnyHeight = (g : Grammar) (s : List ℕ) (height other : ℕ) (kept keys : List Key)
    → den g height 0 s [] ≢ Err Deep → den g other 0 s [] ≢ Err Deep → IsFresh g s height kept keys
    → IsFresh g s other kept keys × (calls_by g s height keys ≡ calls_by g s other keys)

-- and so are those that are reached
abbrev pub OneReach : Type 0
OneReach = (g : Grammar) (s : List ℕ) (h : ℕ) (keys same : List Key) → IsReach g s h keys → IsReach g s h same
    → AreSame keys same × (length keys ≡ length same) × (calls_by g s h keys ≡ calls_by g s h same)

-- they are on intervals of the input
abbrev pub FreshLieInside : Type 0
FreshLieInside = (g : Grammar) (s : List ℕ) (h : ℕ) (kept keys : List Key) → Good g → IsInput s → IsFresh g s h kept keys
    → (key : Key) → Has keys key → (key.from ≤ key.to) × (key.to ≤ length s)

-- one that has ended stays
abbrev pub EndedStays : Type 0
EndedStays = (n : ℕ) (e : Evaluation) (answer : Result Tree Stop) → ended e ≡ Some answer → moves n e ≡ e
