-- From facts over variables to a formula over numbers: variables are numbered by their first mention, the part's length first.
use Rattle.std.specs.Prelude.{ℕ, List, [], ◌∷◌, ◌++◌, flat_map, map, nat_lt, ℤ, pos, negsuc, if◌then◌else◌, ◌||◌}
use Rattle.std.specs.List.{list_any, position_or_len}
use Rattle.ipg_lin.specs.declared.formula.Formula.{Formula}
use Rattle.ipg_lin.specs.declared.formula.Formula.TheVariants as formulas
use Rattle.ipg_lin.specs.declared.formula.Boxed.{Boxed}
use Rattle.ipg_facts_forms.specs.declared.fact.Fact.{Fact, fold-Fact}
use Rattle.ipg_facts_forms.specs.declared.fact.Fact.TheOpen.{Fact-F}
use Rattle.ipg_facts_variables.specs.declared.variable.Variable.{Variable}
use Rattle.ipg_facts_variables.specs.Variable.{caller_side, holder_side, whole, same_variable}

-- the variables that a fact mentions, in order
abbrev pub variables_step : Fact-F (List Variable) → List Variable
variables_step (Fact-F.Atom draft) = map (λ term. term.0) draft.terms
variables_step (Fact-F.All members) = flat_map (λ variables. variables) members
variables_step (Fact-F.Any members) = flat_map (λ variables. variables) members

unfoldable pub variables_in : Fact → List Variable
variables_in = fold-Fact (List Variable) variables_step

-- a variable more, where it is new
abbrev pub with_variable : List Variable → Variable → List Variable
with_variable variables variable = if list_any (same_variable variable) variables then variables else variables ++ variable ∷ []

abbrev pub with_variables : List Variable → List Variable → List Variable
with_variables variables [] = variables
with_variables variables (variable ∷ more) = with_variables (with_variable variables variable) more

-- the variables of a list of facts, by their numbers
unfoldable pub variables_of : List Fact → List Variable
variables_of facts = with_variables (whole caller_side ∷ []) (flat_map variables_in facts)

-- a variable's number
abbrev pub place : List Variable → Variable → ℕ
place variables variable = position_or_len (same_variable variable) variables

-- a term among terms whose variables rise
unfoldable pub insert : ℕ × ℤ → List (ℕ × ℤ) → List (ℕ × ℤ)
insert term [] = term ∷ []
insert term (next ∷ terms) = if nat_lt next.0 term.0 then next ∷ insert term terms else term ∷ (next ∷ terms)

-- the terms of an atom, by rising numbers
unfoldable pub numbered : List Variable → List (Variable × ℤ) → List (ℕ × ℤ)
numbered variables [] = []
numbered variables (term ∷ terms) = insert (place variables term.0, term.1) (numbered variables terms)

abbrev pub formula_step : List Variable → Fact-F Formula → Formula
formula_step variables (Fact-F.Atom draft) = formulas.Atom (record { terms = numbered variables draft.terms; constant = draft.constant })
formula_step variables (Fact-F.All members) = formulas.All members
formula_step variables (Fact-F.Any members) = formulas.Any members

unfoldable pub formula_of : List Variable → Fact → Formula
formula_of variables = fold-Fact Formula (formula_step variables)

-- a length of a part is from 0 to 2^30, all else is any number of 64 bits
abbrev pub bounds_of : Variable → ℤ × ℤ
bounds_of variable =
    if same_variable variable (whole caller_side) || same_variable variable (whole holder_side) then (pos 0, pos 1073741824)
    else (negsuc 9223372036854775807, pos 9223372036854775807)

abbrev pub box_of : List Variable → Boxed
box_of variables = record { bounds = map bounds_of variables }

abbrev pub all_of : List Fact → Formula × Boxed
all_of facts = (formulas.All (map (formula_of (variables_of facts)) facts), box_of (variables_of facts))
