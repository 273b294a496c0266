-- How deep the calls of a run nest.
use Rattle.std.specs.Prelude.{ℕ, zero, suc, List, [], ◌∷◌, max}
use Rattle.ipg_core.specs.Grammar.{Grammar}
use Rattle.ipg_core.specs.Part.{part}
use Rattle.ipg_core.specs.Environment.{Values}
use Rattle.ipg_core.specs.Run.{Asked}
use Rattle.ipg_core.specs.Meaning.{rule_on, den}

-- the greatest number that a call has
abbrev pub greatest_by : (Asked → ℕ) → List Asked → ℕ
greatest_by f [] = 0
greatest_by f (asked ∷ more) = max (f asked) (greatest_by f more)

-- a call of a rule on a part is one more than those that nest in it; where they may be h deep
unfoldable pub nest : Grammar → ℕ → ℕ → List ℕ → Values → ℕ
nest g zero r s outer = 0
nest g (suc h) r s outer = suc (greatest_by (λ asked. nest g h asked.callee (part s asked.from asked.to) asked.outer) (rule_on (den g h) g r s outer).asked)
