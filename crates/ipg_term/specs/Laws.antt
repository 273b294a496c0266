-- A grammar is accepted or has a first cycle that can loop, and not both.
use Rattle.std.specs.Prelude.{◌≡◌, ℕ, ℤ, List}
use Rattle.ipg_core.specs.Grammar.{Grammar}
use Rattle.ipg_lin.specs.Formula.{assigned}
use Rattle.ipg_proof.specs.Proves.{Accepts}
use Rattle.ipg_term.specs.Loops.{Loops}

abbrev pub LoopsArentAccepted : Type 0
LoopsArentAccepted = (g : Grammar) (cycle : List ℕ) (values : List ℤ) → Loops g cycle values → ¬ Accepts g

-- the cycle, and the length of the part, are one
abbrev pub OneLoops : Type 0
OneLoops = (g : Grammar) (cycle other : List ℕ) (values others : List ℤ) → Loops g cycle values → Loops g other others
    → (cycle ≡ other) × (assigned values 0 ≡ assigned others 0)
