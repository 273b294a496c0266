-- A formula decided in the box of its own variables alone, and in the box with those behind them.
use Rattle.std.specs.Prelude.{◌≡◌, ℕ, ◌+◌, ◌≤◌, nat_lt, if◌then◌else◌, true, ℤ, List, ◌++◌, map, length, drop}
use Rattle.ipg_lin.specs.declared.formula.Formula.{Formula}
use Rattle.ipg_lin.specs.declared.formula.Boxed.{Boxed}
use Rattle.ipg_cert.specs.Checks.{combines, root_facts}
use Rattle.ipg_solve.specs.declared.levels.Leveled.{Leveled}
use Rattle.ipg_solve.specs.declared.levels.Leveled.TheVariants.{Values, Facts}
use Rattle.ipg_solve.specs.Decides.{Solves}
use Rattle.ipg_solve.specs.Edges.{entries_of}

-- values that solve the formula, or facts that refute it, each taken once, at most one more than there are variables
abbrev pub Levels : Formula → Boxed → Leveled → Type 0
Levels f box (Values values) = Solves f box values
Levels f box (Facts facts) = (combines (entries_of facts) (root_facts f box) ≡ true) × (length facts ≤ length box.bounds + 1)

-- the number of a fact where `more` facts come in behind the first `kept`
abbrev pub moved : ℕ → ℕ → ℕ → ℕ
moved kept more fact = if nat_lt fact kept then fact else fact + more

-- the values, and the least ones of the variables behind them
abbrev pub with_lows : List (ℤ × ℤ) → List ℤ → List ℤ
with_lows bounds values = values ++ map (λ b. b.0) (drop (length values) bounds)
