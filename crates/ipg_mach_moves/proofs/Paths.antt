-- Moves one after another, along which what is known stays right, and no more calls are open than may be.
use Rattle.std.proofs.Common.{◌≡◌, ◌≤◌, ℕ, zero, suc, refl, sym, subst, List, Option}
use Rattle.ipg_core.specs.Grammar.{Grammar}
use Rattle.ipg_mach_moves.specs.Moves.{Known, Tally, Evaluation, move, moves}
use Rattle.ipg_mach_moves.specs.Laws.{AreRight}

-- what is known is right, and so many calls at most were open
abbrev pub Fit : Grammar → List ℕ → ℕ → Option Known → Tally → Type 0
Fit g s bound known tally = AreRight g s known × (tally.deepest ≤ bound)

module _ (g : Grammar) (s : List ℕ) (bound : ℕ) where
  abbrev pub Right : Evaluation → Type 0
  Right e = Fit g s bound e.known e.tally

  abbrev pub AllAlong : ℕ → Evaluation → Type 0
  AllAlong zero e = Right e
  AllAlong (suc n) e = Right e × AllAlong n (move e)

  pub record Path (e end : Evaluation) : Type 0 where
    pub count : ℕ
    pub is : moves count e ≡ end
    pub along : AllAlong count e

  pub stay : (e : Evaluation) → Right e → Path e e
  unfolding moves
  stay e right = record { count = 0; is = refl; along = right }

  pub step : (e end : Evaluation) → Right e → Path (move e) end → Path e end
  unfolding moves
  step e end right path = record { count = suc path.count; is = path.is; along = (right, path.along) }

  join_by : (n : ℕ) (e middle end : Evaluation) → moves n e ≡ middle → AllAlong n e → Path middle end → Path e end
  unfolding moves
  join_by zero e middle end is along path = subst (λ x. Path x end) (sym is) path
  join_by (suc n) e middle end is along path = step e end along.0 (join_by n (move e) middle end is along.1 path)

  pub join : (e middle end : Evaluation) → Path e middle → Path middle end → Path e end
  join e middle end one other = join_by one.count e middle end one.is one.along other
