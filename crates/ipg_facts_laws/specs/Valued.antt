-- When facts over variables hold, where each variable has a value.
use Rattle.std.specs.Prelude.{List, [], ◌∷◌, map, Bool, ℤ, pos, ◌+ℤ◌, ◌*ℤ◌, int_le}
use Rattle.ipg_lin.specs.Formula.{every, some}
use Rattle.ipg_facts_forms.specs.declared.fact.Fact.{Fact, fold-Fact}
use Rattle.ipg_facts_forms.specs.declared.fact.Fact.TheOpen.{Fact-F}
use Rattle.ipg_facts_variables.specs.declared.variable.Variable.{Variable}

-- a value for each variable
abbrev pub Valuation : Type 0
Valuation = Variable → ℤ

abbrev pub sum_of : Valuation → List (Variable × ℤ) → ℤ
sum_of v [] = pos 0
sum_of v (term ∷ terms) = (term.1 *ℤ v term.0) +ℤ sum_of v terms

abbrev pub so_step : Valuation → Fact-F Bool → Bool
so_step v (Fact-F.Atom draft) = int_le (sum_of v draft.terms +ℤ draft.constant) (pos 0)
so_step v (Fact-F.All members) = every members
so_step v (Fact-F.Any members) = some members

-- a fact holds
abbrev pub is_so : Valuation → Fact → Bool
is_so v = fold-Fact Bool (so_step v)

abbrev pub are_so : Valuation → List Fact → Bool
are_so v facts = every (map (is_so v) facts)
