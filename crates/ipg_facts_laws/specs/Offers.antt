-- Conditions leave no empty choice: each Any of theirs has a member.
use Rattle.std.specs.Prelude.{◌≡◌, List, [], ◌∷◌, Bool, true, false}
use Rattle.std.specs.List.{AllByRecursion}
use Rattle.ipg_core.specs.Grammar.{Grammar}
use Rattle.ipg_core.specs.MustTouch.{Marks}
use Rattle.ipg_graph.specs.declared.edge.Edge.{Edge}
use Rattle.ipg_lin.specs.Formula.{every}
use Rattle.ipg_lin.specs.declared.formula.Formula.{Formula, fold-Formula}
use Rattle.ipg_lin.specs.declared.formula.Formula.TheOpen.{Formula-F}
use Rattle.ipg_lin.specs.declared.formula.Boxed.{Boxed}
use Rattle.ipg_facts.specs.Keep.{keep}
use Rattle.ipg_facts_forms.specs.Joint.{joint}

-- there are some, and all are so
abbrev pub some_and_every : List Bool → Bool
some_and_every [] = false
some_and_every (b ∷ bs) = every (b ∷ bs)

abbrev pub offers_step : Formula-F Bool → Bool
offers_step (Formula-F.Atom form) = true
offers_step (Formula-F.All members) = every members
offers_step (Formula-F.Any members) = some_and_every members

-- each Any of a formula has a member
abbrev pub offers : Formula → Bool
offers = fold-Formula Bool offers_step

abbrev pub ConditionsOffer : Type 0
ConditionsOffer = (g : Grammar) (marks : Marks) (e : Edge) → offers (keep g marks e).0 ≡ true

abbrev pub JointsOffer : Type 0
JointsOffer = (parts : List (Formula × Boxed)) → AllByRecursion (λ part. offers part.0 ≡ true) parts → offers (joint parts).0 ≡ true
