-- What a parse over what is kept comes to, and what is known then.
use Rattle.std.specs.Prelude.{◌≡◌, ◌⊎◌, ℕ, List, length, Result, Ok, Err, Option, Some, None}
use Rattle.ipg_core.specs.Grammar.{Grammar}
use Rattle.ipg_core.specs.Tree.{Tree}
use Rattle.ipg_core.specs.Within.{TreeWithin}
use Rattle.ipg_core.specs.Run.{Stop, NoTree, OutOfRange}
use Rattle.ipg_mach_moves.specs.Moves as moves
use Rattle.ipg_mach_moves.specs.Moves.{Known, Tally, known_of, learn, opening, ended}
use Rattle.ipg_mach_nodes.specs.Stored.{Source, StandsTree}
use Rattle.ipg_mach.specs.declared.verdict.Verdict as code
use Rattle.ipg_mach.specs.declared.verdict.Verdict.TheVariants as verdict
use Rattle.ipg_mach.specs.Counted.{IsTally}
use Rattle.ipg_mach.specs.Known.{IsKnown}

-- the first rule on the whole input
abbrev pub first_call : List ℕ → moves.Key
first_call s = record { rule = 0; from = 0; to = length s }

-- its answer was known, so nothing ran
pub record WasKnown (s : List ℕ) (known : Option Known) (answer : Result Tree Stop) (tally : Tally) (later : Option Known) : Type 0 where
  pub kept : known_of known (first_call s) ≡ Some answer
  pub counts : tally ≡ record { bodies = 0; hits = 1; deepest = 0 }
  pub same : later ≡ known

-- it wasn't, so it ran: what was known at the end is known then, and its answer too
pub record HadToRun (g : Grammar) (s : List ℕ) (known : Option Known) (answer : Result Tree Stop) (tally : Tally) (later : Option Known) : Type 0 where
  pub fresh : known_of known (first_call s) ≡ None
  pub moved : ℕ
  pub ends : ended (moves.moves moved (opening g s known)) ≡ Some answer
  pub counts : (moves.moves moved (opening g s known)).tally ≡ tally
  pub learned : later ≡ learn g (moves.moves moved (opening g s known)).known (first_call s) answer

-- the parse of an input comes to the answer over what is known, with these counts, and with this known later
abbrev pub ComesTo : Grammar → List ℕ → Option Known → Result Tree Stop → Tally → Option Known → Type 0
ComesTo g s known answer tally later = WasKnown s known answer tally later ⊎ HadToRun g s known answer tally later

-- the verdict is the answer on an input of n bytes, with the counts of a tally, and what is kept holds what is known later
abbrev pub IsVerdict : {A : Type 0} → Source → ℕ → code.Verdict A → Result Tree Stop → Tally → Option Known → Type 0
IsVerdict src n (verdict.Tree root counts kept) answer tally later =
    (one : Tree) × (answer ≡ Ok one) × StandsTree src kept.store 0 root one × TreeWithin n one × IsTally counts tally
    × IsKnown src kept.store kept.memo later
IsVerdict src n (verdict.NoTree counts kept) answer tally later = (answer ≡ Err NoTree) × IsTally counts tally × IsKnown src kept.store kept.memo later
IsVerdict src n (verdict.Range counts) answer tally later = (answer ≡ Err OutOfRange) × IsTally counts tally
