-- The facts that a refutation starts from: the bounds of each variable, and the members of the formula.
use Rattle.std.specs.Prelude.{ℕ, ◌+◌, Bool, ℤ, pos, negsuc, neg_ℤ, int_le, List, [], ◌∷◌, map}
use Rattle.std.specs.List.{flat_map}
use Rattle.ipg_lin.specs.Form.{Form, Assignment, value_at}
use Rattle.ipg_lin.specs.Formula.{holds_at, every, some}
use Rattle.ipg_lin.specs.declared.formula.Formula.{Formula}
use Rattle.ipg_lin.specs.declared.formula.Formula.TheVariants as formula
use Rattle.ipg_lin.specs.declared.formula.Formula.TheOpen.{Formula-F}
use Rattle.ipg_lin.specs.declared.formula.Formula.TheOpen.Formula-F.{Atom, All, Any}
use Rattle.ipg_lin.specs.declared.formula.Formula.TheFolds.{fold-Formula}

-- a form is at most 0, or one of these formulas holds
pub data Fact : Type 0 where
  AtMost : Form → Fact
  Choice : List Formula → Fact

abbrev pub holds_fact : Assignment → Fact → Bool
holds_fact values (AtMost form) = int_le (value_at values form) (pos 0)
holds_fact values (Choice members) = some (map (holds_at values) members)

abbrev pub all_hold : Assignment → List Fact → Bool
all_hold values facts = every (map (holds_fact values) facts)

-- a formula, and the facts that its members are
pub record Told : Type 0 where
  pub whole : Formula
  pub facts : List Fact

-- an All is the facts of its members, in place; an Any is one fact, and so is an atom
abbrev pub told_step : Formula-F Told → Told
told_step (Atom form) = record { whole = formula.Atom form; facts = AtMost form ∷ [] }
told_step (All members) = record { whole = formula.All (map (λ m. m.whole) members); facts = flat_map (λ m. m.facts) members }
told_step (Any members) = record { whole = formula.Any (map (λ m. m.whole) members); facts = Choice (map (λ m. m.whole) members) ∷ [] }

abbrev pub facts_of : Formula → List Fact
facts_of f = (fold-Formula Told told_step f).facts

-- low - x <= 0
abbrev pub at_least : ℕ → ℤ → Fact
at_least x low = AtMost (record { terms = (x, negsuc 0) ∷ []; constant = low })

-- x - high <= 0
abbrev pub at_most : ℕ → ℤ → Fact
at_most x high = AtMost (record { terms = (x, pos 1) ∷ []; constant = neg_ℤ high })

-- the bounds of the variables from x on, each its lower and then its upper one
abbrev pub bound_facts : ℕ → List (ℤ × ℤ) → List Fact
bound_facts x [] = []
bound_facts x (bounds ∷ rest) = at_least x bounds.0 ∷ at_most x bounds.1 ∷ bound_facts (x + 1) rest
