-- When a refutation checks.
use Rattle.std.specs.Prelude.{ℕ, ◌^◌, Bool, true, false, ◌&&◌, nat_le, nat_lt, nat_eq, if◌then◌else◌, ℤ, pos, ◌+ℤ◌, ◌*ℤ◌}
use Rattle.std.specs.Prelude.{int_lt, List, [], ◌∷◌, ◌++◌, map, length, slice_get, Option, None, Some, option_and_then}
use Rattle.std.specs.List.{list_all}
use Rattle.std.specs.Ordering.{int_eq}
use Rattle.ipg_lin.specs.Form.{Form}
use Rattle.ipg_lin.specs.declared.formula.Formula.{Formula}
use Rattle.ipg_lin.specs.declared.formula.Boxed.{Boxed}
use Rattle.ipg_cert.specs.Facts.{Fact, AtMost, Choice, facts_of, at_least, at_most, bound_facts}
use Rattle.ipg_cert.specs.declared.refutation.Step.{Step}
use Rattle.ipg_cert.specs.declared.refutation.Step.TheVariants.{Combine, Split, Either}
use Rattle.ipg_cert.specs.declared.refutation.Refutation.{Refutation}

-- the form of an atom among the facts
abbrev pub atom_in : Option Fact → Option Form
atom_in (Some (AtMost form)) = Some form
atom_in (Some (Choice members)) = None
atom_in None = None

-- the members of an Any among the facts
abbrev pub members_in : Option Fact → List Formula
members_in (Some (Choice members)) = members
members_in (Some (AtMost form)) = []
members_in None = []

-- the fact is an Any of so many members
abbrev pub is_choice : ℕ → Option Fact → Bool
is_choice parts (Some (Choice members)) = nat_eq (length members) parts
is_choice parts (Some (AtMost form)) = false
is_choice parts None = false

abbrev pub zero_form : Form
zero_form = record { terms = []; constant = pos 0 }

-- w times the one form, and the other
abbrev pub plus_times : ℕ → Form → Form → Form
plus_times w form rest = record { terms = map (λ t. (t.0, pos w *ℤ t.1)) form.terms ++ rest.terms; constant = (pos w *ℤ form.constant) +ℤ rest.constant }

-- the form that an entry names: its weight is from 1 to 2^40, and its fact is an atom
abbrev pub form_of_entry : List Fact → ℕ × ℕ → Option Form
form_of_entry facts entry = if nat_lt 0 entry.0 && nat_le entry.0 (2 ^ 40) then atom_in (slice_get facts entry.1) else None

-- the sum and the weighted forms of the entries, if each names one
abbrev pub sum_from : List Fact → Form → List (ℕ × ℕ) → Option Form
sum_from facts sum [] = Some sum
sum_from facts sum (entry ∷ entries) = option_and_then (λ form. sum_from facts (plus_times entry.0 form sum) entries) (form_of_entry facts entry)

abbrev pub weighted_sum : List Fact → List (ℕ × ℕ) → Option Form
weighted_sum facts entries = sum_from facts zero_form entries

-- what a variable is taken times in all
abbrev pub coefficient : ℕ → List (ℕ × ℤ) → ℤ
coefficient x [] = pos 0
coefficient x (term ∷ terms) = (if nat_eq term.0 x then term.1 else pos 0) +ℤ coefficient x terms

-- no variable is left, and the constant is above 0
abbrev pub is_absurd : Option Form → Bool
is_absurd (Some form) = list_all (λ t. int_eq (coefficient t.0 form.terms) (pos 0)) form.terms && int_lt (pos 0) form.constant
is_absurd None = false

abbrev pub combines : List (ℕ × ℕ) → List Fact → Bool
combines entries facts = nat_le 1 (length entries) && (nat_le (length entries) (2 ^ 21) && is_absurd (weighted_sum facts entries))

-- for each member the facts, and the member's own behind them
abbrev pub cases_of : List Fact → List Formula → List (List Fact)
cases_of facts members = map (λ m. facts ++ facts_of m) members

-- The steps refute each list of facts in turn, and none is left over: `vars` is the number of variables.
abbrev pub refutes : ℕ → List Step → List (List Fact) → Bool
refutes vars [] [] = true
refutes vars [] (facts ∷ goals) = false
refutes vars (step ∷ steps) [] = false
refutes vars (Combine entries ∷ steps) (facts ∷ goals) = combines entries facts && refutes vars steps goals
refutes vars (Split x at ∷ steps) (facts ∷ goals) =
    nat_lt x vars && refutes vars steps ((facts ++ at_most x at ∷ []) ∷ (facts ++ at_least x (at +ℤ pos 1) ∷ []) ∷ goals)
refutes vars (Either fact parts ∷ steps) (facts ∷ goals) =
    is_choice parts (slice_get facts fact) && refutes vars steps (cases_of facts (members_in (slice_get facts fact)) ++ goals)

-- the facts at the root
abbrev pub root_facts : Formula → Boxed → List Fact
root_facts f box = bound_facts 0 box.bounds ++ facts_of f

abbrev pub checks : Formula → Boxed → Refutation → Bool
checks f box r = refutes (length box.bounds) r.steps (root_facts f box ∷ [])
