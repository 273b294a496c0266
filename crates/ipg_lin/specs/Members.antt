-- Proofs by what a formula is, for crates above: of an atom, and of an All and an Any by their members.
use Rattle.std.specs.Prelude.{◌≡◌, List, [], ◌∷◌, map}
use Rattle.std.specs.List.{AllByRecursion}
use Rattle.std.proofs.Common.{sym, ◌∙◌, ap, subst}
use Rattle.ipg_lin.specs.Form.{Form}
use Rattle.ipg_lin.specs.declared.formula.Formula.{Formula, roll-Formula, map-Formula}
use Rattle.ipg_lin.specs.declared.formula.Formula.TheVariants as formula
use Rattle.ipg_lin.specs.declared.formula.Formula.TheOpen.{Formula-F}
use Rattle.ipg_lin.specs.declared.formula.Formula.TheOpen.Formula-F.{Atom, All, Any}
use Rattle.ipg_lin.specs.declared.formula.Formula.TheFolds.{fold-Formula, fold-roll-Formula, ind-Formula}

module _ (P : Formula → Type 0) (atom : (form : Form) → P (formula.Atom form)) (all : (fs : List Formula) → AllByRecursion P fs → P (formula.All fs))
    (any : (fs : List Formula) → AllByRecursion P fs → P (formula.Any fs)) where
  abbrev Proved : Type 0
  Proved = (f : Formula) × P f

  abbrev bare : List Proved → List Formula
  bare ms = map (λ (m : Proved). m.0) ms

  each : (ms : List Proved) → AllByRecursion P (bare ms)
  each [] = tt
  each (m ∷ ms) = (m.1, each ms)

  layer : (y : Formula-F Proved) (x : Formula-F Formula) → map-Formula Proved Formula (λ e. e.0) y ≡ x → P (roll-Formula x)
  layer (Atom form) x is = subst (λ z. P (roll-Formula z)) is (subst P (sym (formula.rolls-Atom form)) (atom form))
  layer (All ms) x is = subst (λ z. P (roll-Formula z)) is (subst P (sym (formula.rolls-All (bare ms))) (all (bare ms) (each ms)))
  layer (Any ms) x is = subst (λ z. P (roll-Formula z)) is (subst P (sym (formula.rolls-Any (bare ms))) (any (bare ms) (each ms)))

  -- what holds of an atom, and of an All and an Any where it holds of each member, holds of each formula
  pub by_members : (f : Formula) → P f
  by_members = ind-Formula P (λ x y is. layer y x is)

-- a fold, by what the formula is
module _ (X : Type 0) (step : Formula-F X → X) where
  pub folds-Atom : (form : Form) → fold-Formula X step (formula.Atom form) ≡ step (Atom form)
  folds-Atom form = ap (fold-Formula X step) (sym (formula.rolls-Atom form)) ∙ fold-roll-Formula X step (Atom form)

  pub folds-All : (fs : List Formula) → fold-Formula X step (formula.All fs) ≡ step (All (map (fold-Formula X step) fs))
  folds-All fs = ap (fold-Formula X step) (sym (formula.rolls-All fs)) ∙ fold-roll-Formula X step (All fs)

  pub folds-Any : (fs : List Formula) → fold-Formula X step (formula.Any fs) ≡ step (Any (map (fold-Formula X step) fs))
  folds-Any fs = ap (fold-Formula X step) (sym (formula.rolls-Any fs)) ∙ fold-roll-Formula X step (Any fs)
